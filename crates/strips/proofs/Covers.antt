-- What is covered: one square, a row, and the zone of the area and what is beside it.
use Prim.Native.Nat.{ℕ, ◌+◌, ◌-◌, ◌≤◌, ◌<◌, min}
use native.Mathlib.Omega.{arith}
use mathlib.Core.Path.{◌≡◌, sym, ◌∙◌, ap, subst}
use mathlib.Core.Logic.{⊎_elim}
use mathlib.Core.List.{List}
use Rattle.std.specs.Prelude.{None}
use Rattle.plane.specs.declared.tile.Tile.{Tile}
use Rattle.plane.specs.Picture.{Picture}
use Rattle.plane.specs.Strips.{Holds, Strip}
use Rattle.strips.specs.declared.cover.Spot.{Spot}
use Rattle.brush.specs.Brush.{Upward}
use Rattle.strips.specs.Cover.{Covered, CoveredBy, Grown, RowCovered, RowUnder, SpotOf, TooMany, Working}
use Rattle.slots.specs.Slots.{Sought, WithTile}
use Rattle.plane.proofs.Basics.{lt_or_ge}
use Rattle.strips.proofs.Grows.{grown_covered, grown_then, grown_with, new_strip, not_all}
use Rattle.strips.proofs.Stays.{holds_at}

-- ---- one square covered
pub not_found : (ws : List ℕ) {n x y : ℕ} → Sought ws 0 n x y None → CoveredBy ws n x y → ⊥
not_found ws F d = F d.0 (omega arith) d.1 d.2

-- the strip of a square that is not covered is put in
pub covers_new : {w h : ℕ} {q : Picture} {ws vs : List ℕ} {n room x y : ℕ} {s : Tile} {r : Spot} → SpotOf (n + 1) s r → Working w h q ws n room → n < room → Strip w h q s → Holds s x y → WithTile ws vs n s
    → Covered w h q room ws n x y vs r
covers_new {w} {h} {q} {ws} {vs} {n} {y = y} e C u S H W = record {
  few = omega (arith, e.count);
  grown = subst (λ (c : ℕ). Grown w h q (y + 1) ws n vs c) (sym e.count) (grown_with C.part S (omega (arith, H)) W);
  here = let d = W.new in (d.0, omega (arith, d.1, e.count), holds_at d.2 H, e.right ∙ ap (λ (t : Tile). t.right) (sym d.2), e.top ∙ ap (λ (t : Tile). t.top) (sym d.2));
}

-- no room for one that is not covered: the strips are more than the room
pub covers_full : {w h : ℕ} {q : Picture} {ws : List ℕ} {n room x y : ℕ} → Working w h q ws n room → room ≤ n → x < w → y < h → (CoveredBy ws n x y → ⊥) → TooMany w h q room
covers_full {x = x} {y = y} C u hx hy g = omega (arith, C.few, not_all C.part x y hx hy g)

-- what is found above covered squares is a whole strip
pub cover_strip : {w h : ℕ} {q : Picture} {ws : List ℕ} {n room x y : ℕ} {s : Tile} → Working w h q ws n room → Upward w h q x y s → RowUnder ws n x (x + 1) y → (CoveredBy ws n x y → ⊥) → Strip w h q s
cover_strip {x = x} C U f g = new_strip C.part U (λ o. f x (omega arith) (omega arith) o) g

-- ---- a row covered, from x up to the spot's right, and the rows above it up to the spot's top
pub record RowSoFar (w h : ℕ) (q : Picture) (room : ℕ) (ws : List ℕ) (n x y : ℕ) (vs : List ℕ) (r : Spot) : Type 0 where
  pub few : r.count ≤ room
  pub grown : Grown w h q (y + 1) ws n vs r.count
  pub on : x ≤ r.right
  pub up : y < r.top
  pub top : r.top ≤ h
  pub row : (i z : ℕ) → x ≤ i → i < r.right → y ≤ z → z < r.top → CoveredBy vs r.count i z

module _ {w h : ℕ} {q : Picture} {room : ℕ} {ws : List ℕ} {n : ℕ} where
  module _ {x y : ℕ} {us vs : List ℕ} {r u : Spot} (R : RowSoFar w h q room ws n x y us r) (C : Covered w h q room us r.count r.right y vs u) where
    pub row_more : {m : ℕ} → m ≡ min r.top u.top → RowSoFar w h q room ws n x y vs (record { count = u.count; right = u.right; top = m; near = u.near; guess = u.guess })
    row_more {m} o =
        let d = C.here in
        let H = d.2 in
        record {
          few = C.few;
          grown = grown_then R.grown C.grown (omega arith);
          on = omega (arith, R.on);
          up = omega (arith, R.up);
          top = omega (arith, R.top);
          row = λ i z b c e f. ⊎_elim
              (λ (v : i < r.right). grown_covered C.grown i z (R.row i z b v e (omega arith)))
              (λ (v : r.right ≤ i). (d.0, d.1, omega (arith, H, d.3, d.4)))
              (lt_or_ge i r.right);
        }

  pub row_under : {x e y : ℕ} {vs : List ℕ} {r : Spot} → RowSoFar w h q room ws n x y vs r → RowUnder ws n x e y → r.right < e → RowUnder vs r.count r.right (r.right + 1) y
  row_under {y = y} R f o i a b c = grown_covered R.grown i (y - 1) (f i (omega (arith, R.on)) (omega arith) c)

-- ---- the rows below y covered, from x up to e, by strips that begin below f
pub record ZoneSoFar (w h : ℕ) (q : Picture) (room : ℕ) (ws : List ℕ) (n x e f y : ℕ) (vs : List ℕ) (m : ℕ) : Type 0 where
  pub few : m ≤ room
  pub grown : Grown w h q f ws n vs m
  pub zone : (i z : ℕ) → x ≤ i → i < e → z < y → CoveredBy vs m i z

module _ {w h : ℕ} {q : Picture} {room : ℕ} {ws : List ℕ} {n x e f : ℕ} where
  pub zone_more : {y m : ℕ} {us vs : List ℕ} {r : Spot} → ZoneSoFar w h q room ws n x e f y us m → RowCovered w h q room us m x e y vs r → y < f → ZoneSoFar w h q room ws n x e f r.top vs r.count
  zone_more {y} Z C o = record {
    few = C.few;
    grown = grown_then Z.grown C.grown (omega arith);
    zone = λ i z a b c. ⊎_elim (λ (v : z < y). grown_covered C.grown i z (Z.zone i z a b v)) (λ (v : y ≤ z). C.row i z a b v c) (lt_or_ge z y);
  }
