-- The strips made: the strip of a square that is not covered is a new one; it is put in, and the others stay; and strips that leave a square uncovered are fewer than all.
use Prim.Native.Nat.{ℕ, suc, ◌+◌, ◌-◌, ◌≤◌, ◌<◌}
use native.Mathlib.Omega.{arith}
use mathlib.Core.Path.{◌≡◌, refl, sym, ◌∙◌, ap, subst}
use mathlib.Core.Logic.{◌⊎◌, inl, inr, ⊎_elim}
use mathlib.Core.List.Memᴰ
use mathlib.Core.List.{List, [], ◌∷◌, Memᴰ}
use lib.ListN.{length}
use Rattle.plane.specs.declared.tile.Tile.{Tile}
use Rattle.plane.specs.Picture.{Picture, tiles}
use Rattle.plane.specs.Strips.{Holds, Ordered, Precedes, Run, Strip}
use Rattle.plane.specs.Words.{tile_of, up_to}
use Rattle.brush.specs.Brush.{Upward}
use Rattle.strips.specs.Cover.{CoveredBy, Grown, Part}
use Rattle.slots.specs.Slots.{Fresh, Has, Sorted, WithTile}
use Rattle.plane.proofs.Basics.{lt_or_ge}
use Rattle.plane.proofs.Index.{length_up_to, ordered_up_to, up_to_mem}
use Rattle.plane.proofs.Lists.{precedes_not}
use Rattle.plane.proofs.Tiling.{strip_one, tiles_strips}
use Rattle.brush.proofs.Spans.{one_run}
use Rattle.strips.proofs.Stays.{holds_at, own_corner, strip_at_lem, upper_strip}

-- ---- the strips made
module _ {w h : ℕ} {q : Picture} {ws : List ℕ} {n : ℕ} (P : Part w h q ws n) where
  -- a strip through a square that is not covered begins in that row, if what lies below is covered
  pub new_strip : {x y : ℕ} {s : Tile} → Upward w h q x y s → (0 < y → CoveredBy ws n x (y - 1)) → (CoveredBy ws n x y → ⊥) → Strip w h q s
  new_strip {x} {y} {s} U f g = upper_strip U below
    where
      below : 0 < y → Run w q s.left s.right s.kind (y - 1) → ⊥
      below o R =
          let d = f o in
          let B = P.each d.0 d.1 in
          let H = d.2 in
          let b = tile_of ws d.0 in
          let e = one_run (B.rows (y - 1) H.from_bottom H.to_top) R B.box.inside U.steady.box.inside x H.from_left H.to_right U.steady.here.from_left U.steady.here.to_right in
          let t : b.top ≡ y = ⊎_elim (λ (v : y < b.top). absurd (g (d.0, d.1, record { from_left = H.from_left; to_right = H.to_right; from_bottom = omega arith; to_top = v }))) (λ (v : b.top ≤ y). omega arith) (lt_or_ge y b.top) in
          B.above (omega (arith, U.steady.box, U.steady.here))
          (subst (λ (m : ℕ). Run w q b.left b.right b.kind m) (sym t)
          (subst (λ (m : ℕ). Run w q m b.right b.kind y) (sym e.0) (subst (λ (m : ℕ). Run w q s.left m b.kind y) (sym e.1) (subst (λ (m : ℕ). Run w q s.left s.right m y) (sym e.2) (U.steady.runs y (omega arith) (omega (arith, U.steady.here)))))))

  -- it is none of those that are there
  pub new_fresh : {x y : ℕ} {s : Tile} → Strip w h q s → Holds s x y → (CoveredBy ws n x y → ⊥) → Fresh ws n s
  new_fresh {x} {y} {s} S H g i u =
      let B = P.each i u in
      let b = tile_of ws i in
      ⊎_elim (λ (v : b.bottom < s.bottom). inl (inl v))
      (λ (v : s.bottom ≤ b.bottom). ⊎_elim (λ (o : s.bottom < b.bottom). inr (inl o))
      (λ (o : b.bottom ≤ s.bottom). ⊎_elim (λ (c : b.left < s.left). inl (inr (omega arith, c)))
      (λ (c : s.left ≤ b.left). ⊎_elim (λ (d : s.left < b.left). inr (inr (omega arith, d)))
      (λ (d : b.left ≤ s.left). absurd (g (i, u, holds_at (strip_one B S s.left s.bottom (omega (arith, B.box)) (own_corner S)) H)))
      (lt_or_ge s.left b.left))
      (lt_or_ge b.left s.left))
      (lt_or_ge s.bottom b.bottom))
      (lt_or_ge b.bottom s.bottom)

  -- this strip more
  pub grown_with : {vs : List ℕ} {f : ℕ} {s : Tile} → Strip w h q s → s.bottom < f → WithTile ws vs n s → Grown w h q f ws n vs (n + 1)
  grown_with {vs} {f} {s} S o W = record {
    more = omega arith;
    part = record {
      each = λ j u. ⊎_elim (λ e. strip_at_lem e S) (λ r. subst (λ (t : Tile). Strip w h q t) r.2 (P.each r.0 r.1)) (W.only j u);
      order = W.order;
    };
    keeps = W.old;
    only = λ j u. ⊎_elim (λ e. inl (subst (λ (t : Tile). t.bottom < f) (sym e) o)) (λ r. inr r) (W.only j u);
  }

-- what is there stays, what is covered stays so, and growth upon growth, as high or lower
pub grown_has : {w h : ℕ} {q : Picture} {f : ℕ} {ws vs : List ℕ} {n m : ℕ} → Grown w h q f ws n vs m → {t : Tile} → Has ws n t → Has vs m t
grown_has A r = let s = A.keeps r.0 r.1 in (s.0, s.1, s.2 ∙ r.2)

pub grown_covered : {w h : ℕ} {q : Picture} {f : ℕ} {ws vs : List ℕ} {n m : ℕ} → Grown w h q f ws n vs m → (x y : ℕ) → CoveredBy ws n x y → CoveredBy vs m x y
grown_covered A x y r = let s = A.keeps r.0 r.1 in (s.0, s.1, holds_at s.2 r.2)

pub grown_then : {w h : ℕ} {q : Picture} {f g : ℕ} {ws us vs : List ℕ} {n m k : ℕ} → Grown w h q f ws n us m → Grown w h q g us m vs k → g ≤ f → Grown w h q f ws n vs k
grown_then {f = f} A B o = record {
  more = omega (arith, A.more, B.more);
  part = B.part;
  keeps = λ i u. grown_has B (A.keeps i u);
  only = λ i u. ⊎_elim
      (λ v. inl (omega arith))
      (λ r. ⊎_elim (λ v. inl (subst (λ (t : Tile). t.bottom < f) r.2 v)) (λ s. inr (s.0, s.1, s.2 ∙ r.2)) (A.only r.0 r.1))
      (B.only i u);
}

-- ---- how many
-- an ordered list within another is no longer, and shorter if it lacks one
pub ordered_less : (ts bs : List Tile) → Ordered ts → Ordered bs → ((t : Tile) → Memᴰ t ts → Memᴰ t bs)
    → (length ts ≤ length bs) × ((b : Tile) → Memᴰ b bs → (Memᴰ b ts → ⊥) → length ts < length bs)
ordered_less [] [] oa ob f = (omega arith, λ b m g. absurd (Memᴰ.not-nil m))
ordered_less [] (c ∷ bs) oa ob f = (omega arith, λ b m g. omega arith)
ordered_less (a ∷ ts) [] oa ob f = absurd (Memᴰ.not-nil (f a (Memᴰ.head refl)))
ordered_less (a ∷ ts) (c ∷ bs) oa ob f = go (Memᴰ.cases_cons (f a (Memᴰ.head refl))) (ordered_less ts bs oa.1 ob.1) (ordered_less (a ∷ ts) bs oa ob.1)
  where
    go : (a ≡ c) ⊎ Memᴰ a bs
        → (((t : Tile) → Memᴰ t ts → Memᴰ t bs) → (length ts ≤ length bs) × ((b : Tile) → Memᴰ b bs → (Memᴰ b ts → ⊥) → length ts < length bs))
        → (((t : Tile) → Memᴰ t (a ∷ ts) → Memᴰ t bs) → (length (a ∷ ts) ≤ length bs) × ((b : Tile) → Memᴰ b bs → (Memᴰ b (a ∷ ts) → ⊥) → length (a ∷ ts) < length bs))
        → (length (a ∷ ts) ≤ length (c ∷ bs)) × ((b : Tile) → Memᴰ b (c ∷ bs) → (Memᴰ b (a ∷ ts) → ⊥) → length (a ∷ ts) < length (c ∷ bs))
    go (inl e) r₁ r₂ =
        let r = r₁ (λ t m. ⊎_elim (λ (u : t ≡ c). absurd (precedes_not a a (subst (λ (z : Tile). Precedes a z) (u ∙ sym e) (oa.0 t m)) (subst (λ (z : Tile). Precedes a z) (u ∙ sym e) (oa.0 t m)))) (λ u. u) (Memᴰ.cases_cons (f t (Memᴰ.tail m)))) in (
          omega (arith, r.0),
          λ b m g. ⊎_elim
              (λ (u : b ≡ c). absurd (g (Memᴰ.head (u ∙ sym e))))
              (λ u. let v = r.1 b u (λ k. g (Memᴰ.tail k)) in omega arith)
              (Memᴰ.cases_cons m),
        )
    go (inr e) r₁ r₂ =
        let p = ob.0 a e in
        let r = r₂ (λ t m. ⊎_elim (λ (u : t ≡ c). absurd (⊎_elim
        (λ (v : t ≡ a). precedes_not a a (subst (λ (z : Tile). Precedes z a) (sym u ∙ v) p) (subst (λ (z : Tile). Precedes z a) (sym u ∙ v) p))
        (λ v. precedes_not a t (oa.0 t v) (subst (λ (z : Tile). Precedes z a) (sym u) p)) (Memᴰ.cases_cons m))) (λ u. u) (Memᴰ.cases_cons (f t m))) in
        (omega (arith, r.0), λ b m g. omega (arith, r.0))

-- strips that leave a square uncovered are fewer than all
pub not_all : {w h : ℕ} {q : Picture} {ws : List ℕ} {n : ℕ} → Part w h q ws n → (x y : ℕ) → x < w → y < h → (CoveredBy ws n x y → ⊥) → n < length (tiles w h q)
not_all {w} {h} {q} {ws} {n} P x y hx hy g =
    let T = tiles_strips w h q in
    let d = T.cover x y hx hy in
    let r = ordered_less (up_to n (tile_of ws)) (tiles w h q) (ordered_up_to n (tile_of ws) (λ i u. P.order i (suc i) (omega arith) u)) T.ordered into in
    omega (arith, r.1 d.0 d.1 (λ m. let s = up_to_mem n (tile_of ws) m in g (s.0, s.1, holds_at (sym s.2) d.2)), length_up_to n (tile_of ws))
  where
    into : (t : Tile) → Memᴰ t (up_to n (tile_of ws)) → Memᴰ t (tiles w h q)
    into t m =
        let s = up_to_mem n (tile_of ws) m in
        let B = strip_at_lem s.2 (P.each s.0 s.1) in
        let c = (tiles_strips w h q).cover t.left t.bottom (omega (arith, B.box)) (omega (arith, B.box)) in
        Memᴰ.cast (strip_one B ((tiles_strips w h q).each c.0 c.1) t.left t.bottom (own_corner B) c.2) c.1

-- ---- strips in order are sorted: two that share a square are one strip, and so one number
pub part_sorted : {w h : ℕ} {q : Picture} {ws : List ℕ} {n : ℕ} → Part w h q ws n → Sorted ws n
part_sorted {w} {h} {q} {ws} {n} P = record { order = P.order; some = λ i u. own_corner (P.each i u); one = one }
  where
    not_less : (i j : ℕ) → i < j → j < n → tile_of ws i ≡ tile_of ws j → ⊥
    not_less i j u v e = ⊎_elim (λ a. omega (arith, a, ap (λ (t : Tile). t.bottom) e)) (λ a. omega (arith, a.1, ap (λ (t : Tile). t.left) e)) (P.order i j u v)

    one : (i j x y : ℕ) → i < n → j < n → Holds (tile_of ws i) x y → Holds (tile_of ws j) x y → i ≡ j
    one i j x y u v a b =
        let e = strip_one (P.each i u) (P.each j v) x y a b in
        ⊎_elim (λ (o : i < j). absurd (not_less i j o v e)) (λ (o : j ≤ i). ⊎_elim (λ (k : j < i). absurd (not_less j i k u (sym e))) (λ (k : i ≤ j). omega arith) (lt_or_ge j i)) (lt_or_ge i j)
