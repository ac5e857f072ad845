-- Stitches taken over from another table: a shared tile keeps its squares under its new number, and so the number moved is the number of the tile at the square.
use Prim.Native.Nat.{ℕ, ◌-◌, ◌≤◌, ◌<◌}
use native.Mathlib.Omega.{arith}
use mathlib.Core.Path.{◌≡◌, refl, sym, ◌∙◌, ap, subst}
use mathlib.Core.Logic.{⊎_elim, inl, inr}
use mathlib.Core.List.{List}
use Rattle.std.specs.Prelude.{Option, Some, None, IfSome}
use Rattle.plane.specs.declared.tile.Tile.{Tile}
use Rattle.plane.specs.Picture.{before}
use Rattle.plane.specs.Plane.{Link, Names}
use Rattle.plane.specs.Strips.{Holds}
use Rattle.plane.specs.Words.{tile_of}
use Rattle.shared.specs.declared.shared.Shared.{Shared}
use Rattle.shared.specs.declared.shared.Links.{Links}
use Rattle.shared.specs.Shares.{Alike, AllKnown, Moved, MovedLinks}
use Rattle.stitches.specs.Restitch.{KnownOr, LinksIn}
use Rattle.stitches.specs.Stitch.{Ends, LinksOf, StitchTo, StitchedTo, Tight, number_in}
use Rattle.plane.proofs.Basics.{lt_or_ge}
use Rattle.stitches.proofs.Stitches.{before_some, links_are, number_hit, number_out, to_after, to_before}

-- while stitches are set the tiles stay, and so those shared
pub alike_still : {ws us vs : List ℕ} {n i : ℕ} {s : Shared} → Alike ws us n s → StitchedTo us n vs i → Alike ws vs n s
alike_still A S = record {
  all = A.all;
  few = A.few;
  low_old = A.low_old;
  low_new = A.low_new;
  back = A.back;
  ends = A.ends;
  first = λ i u. S.tile i ∙ A.first i u;
  last = λ i j u v e. S.tile j ∙ A.last i j u v e;
}

-- the stitches of a table's tile are those of another tile that is the same
pub links_like : {ws : List ℕ} {s t : Tile} {l : Links ℕ} → t ≡ s → LinksIn ws s l → LinksIn ws t l
links_like {ws} {s} {t} {l} e L = subst (λ (z : Tile). LinksIn ws z l) (sym e) L

-- each stitch that is known is the right one
pub record KnownLinks (ws : List ℕ) (n : ℕ) (t : Tile) (l : Links (Option ℕ)) : Type 0 where
  pub lb : IfSome l.lb (λ g. g ≡ before t.bottom (λ z. number_in ws n t.left z))
  pub bl : IfSome l.bl (λ g. g ≡ before t.left (λ z. number_in ws n z t.bottom))
  pub tr : IfSome l.tr (λ g. g ≡ number_in ws n t.right (t.top - 1))
  pub rt : IfSome l.rt (λ g. g ≡ number_in ws n (t.right - 1) t.top)

-- ---- a number moved
module _ {ws vs : List ℕ} {n w h : ℕ} {s : Shared} (A : Alike ws vs n s) (T : Tight vs n w h) where
  -- a tile that holds a square holds it under its new number
  moved_holds : {g r x y : ℕ} → Moved s g (Some r) → Names ws g x y → r ≡ number_in vs n x y
  moved_holds {g} {r} {x} {y} (inl M) N = number_hit T (omega (arith, M.0, M.1, A.low_new, A.ends, A.back)) (subst (λ (t : Tile). Holds t x y) (sym (ap (tile_of vs) M.1 ∙ A.first g M.0)) N.held)
  moved_holds {g} {r} {x} {y} (inr M) N = number_hit T (omega (arith, M.1, M.2, A.ends)) (subst (λ (t : Tile). Holds t x y) (sym (A.last g r M.0 M.1 M.2)) N.held)

  -- and its number is not that of no tile
  moved_some : {g r : ℕ} → Moved s g (Some r) → g < 65535
  moved_some (inl M) = omega (arith, M.0, A.low_old, A.back, A.few)
  moved_some (inr M) = omega (arith, M.1, A.few)

  moved_link : {g a b x y : ℕ} (r : Option ℕ) → Moved s g r → Link ws a b g x y → IfSome r (λ k. (a < b) × (k ≡ number_in vs n x y))
  moved_link {g} {a} {b} (Some r) M L = ⊎_elim (λ (v : a < b). (v, moved_holds M (L.0 v))) (λ (v : b ≤ a). absurd (omega (arith, L.1 v, moved_some M))) (lt_or_ge a b)
  moved_link None M L = tt

  moved_before : {g m x y : ℕ} (r : Option ℕ) (f : ℕ → ℕ) → number_in vs n x y ≡ f (m - 1) → Moved s g r → Link ws 0 m g x y → IfSome r (λ k. k ≡ before m f)
  moved_before {m = m} (Some r) f q M L = let H = moved_link (Some r) M L in H.1 ∙ (q ∙ before_some m f H.0)
  moved_before None f q M L = tt

  moved_after : {g a b x y : ℕ} (r : Option ℕ) → Moved s g r → Link ws a b g x y → IfSome r (λ k. k ≡ number_in vs n x y)
  moved_after (Some r) M L = (moved_link (Some r) M L).1
  moved_after None M L = tt

  -- the four
  pub known_links : {t : Tile} {g : Links ℕ} {r : Links (Option ℕ)} → LinksIn ws t g → MovedLinks s g r → KnownLinks vs n t r
  known_links {t} {g} {r} L M = record {
    lb = moved_before r.lb (λ z. number_in vs n t.left z) refl M.lb L.lb;
    bl = moved_before r.bl (λ z. number_in vs n z t.bottom) refl M.bl L.bl;
    tr = moved_after r.tr M.tr L.tr;
    rt = moved_after r.rt M.rt L.rt;
  }

-- four that are known are the stitches
known_word : {m k : ℕ} (o : Option ℕ) → IfSome o (λ g. g ≡ m) → o ≡ Some k → k ≡ m
known_word {m} {k} o q e = rw e at q

pub links_all : {ws : List ℕ} {n : ℕ} {t : Tile} {r : Links (Option ℕ)} {l : Links ℕ} → KnownLinks ws n t r → AllKnown r (Some l) → LinksOf ws n t l
links_all {ws} {n} {t} {r} {l} K A = links_are ws n t l (known_word r.lb K.lb A.0) (known_word r.bl K.bl A.1) (known_word r.tr K.tr A.2) (known_word r.rt K.rt A.3)

-- and so are four of which each is known or looked for
known_or : (ws : List ℕ) (n : ℕ) (e : Option (ℕ × ℕ)) {m r : ℕ} (o : Option ℕ) → IfSome o (λ g. g ≡ m) → (StitchTo ws n e r → r ≡ m) → KnownOr ws n e o r → r ≡ m
known_or ws n e (Some g) q f K = K ∙ q
known_or ws n e None q f K = f K

pub links_found : {ws : List ℕ} {n w h : ℕ} {t : Tile} {e : Links (Option (ℕ × ℕ))} {r : Links (Option ℕ)} {l : Links ℕ} → Tight ws n w h → KnownLinks ws n t r → Ends w h t e
    → KnownOr ws n e.lb r.lb l.lb → KnownOr ws n e.bl r.bl l.bl → KnownOr ws n e.tr r.tr l.tr → KnownOr ws n e.rt r.rt l.rt → LinksOf ws n t l
links_found {ws} {n} {w} {h} {t} {e} {r} {l} T K E a b c d = links_are ws n t l
    (known_or ws n e.lb r.lb K.lb (to_before T t.bottom t.left (t.bottom - 1) (λ z. number_in ws n t.left z) e.lb refl E.lb) a)
    (known_or ws n e.bl r.bl K.bl (to_before T t.left (t.left - 1) t.bottom (λ z. number_in ws n z t.bottom) e.bl refl E.bl) b)
    (known_or ws n e.tr r.tr K.tr (to_after T t.right (t.top - 1) (λ u. number_out T (inl u)) e.tr E.tr) c)
    (known_or ws n e.rt r.rt K.rt (to_after T (t.right - 1) t.top (λ u. number_out T (inr u)) e.rt E.rt) d)
