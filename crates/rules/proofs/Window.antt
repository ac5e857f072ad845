-- Locality in a window: pictures that agree on the squares within the halo of a square give it the same mark. Two steps that cross stay near.
use Prim.Native.Nat.{ℕ, ◌+◌, ◌-◌, ◌<◌, ◌≤◌}
use mathlib.Core.Bool.{Bool, true, false, not, cond, ◌&&◌, true≢false, false≢true}
use mathlib.Core.List.{List}
use mathlib.Core.Path.{◌≡◌, refl}
use native.Mathlib.Omega.{arith}
use lib.Dec.{leb, ltb}
use borrow.Author.Tests.{leb-true, ltb-true, le-leb, lt-ltb}
use Rattle.plane.specs.declared.tile.Area.{Area}
use Rattle.plane.specs.Picture.{Picture, area, in_area}
use Rattle.plane.proofs.Basics.{and_left, and_right}
use Rattle.rules.specs.declared.rule.Rule.{Rule}
use Rattle.rules.specs.Some.{Every}
use Rattle.rules.specs.Words.{Reaches, rules_of, halo_of}
use Rattle.rules.specs.Vetting.{AllSound}
use Rattle.rules.specs.Forbid.{Way, right, left, up, down, vertical, back_x, back_y, outside, kind_at, seen, forbids, forbidden}
use Rattle.rules.proofs.Searches.{some_of_every}
use Rattle.rules.proofs.Local.{Agree, forbids_local}
use Rattle.rules.proofs.Vetted.{halo_reaches, halo_small}

-- ---- areas
-- (x,y) is a square of the area
pub record Within (a : Area) (x y : ℕ) : Type 0 where
  pub left_of : a.x1 ≤ x
  pub right_of : x < a.x2
  pub low : a.y1 ≤ y
  pub high : y < a.y2

pub area_of : (a : Area) (x y : ℕ) → Within a x y → in_area a x y ≡ true
unfolding in_area
area_of a x y i = rw (le-leb a.x1 x i.left_of, lt-ltb x a.x2 i.right_of, le-leb a.y1 y i.low, lt-ltb y a.y2 i.high)

pub within : (a : Area) (x y : ℕ) → in_area a x y ≡ true → Within a x y
unfolding in_area
within a x y e =
    let f = and_right (leb a.x1 x) (ltb x a.x2 && (leb a.y1 y && ltb y a.y2)) e in
    let g = and_right (ltb x a.x2) (leb a.y1 y && ltb y a.y2) f in
    record {
      left_of = leb-true a.x1 x (and_left (leb a.x1 x) (ltb x a.x2 && (leb a.y1 y && ltb y a.y2)) e);
      right_of = ltb-true x a.x2 (and_left (ltb x a.x2) (leb a.y1 y && ltb y a.y2) f);
      low = leb-true a.y1 y (and_left (leb a.y1 y) (ltb y a.y2) g);
      high = ltb-true y a.y2 (and_right (leb a.y1 y) (ltb y a.y2) g);
    }

-- pictures that agree at a square of the window show the same there
kind_at_same : (w h : ℕ) (p p' : Picture) (x y : ℕ) → (Within (area 33 33 (33 + w) (33 + h)) x y → p (x - 33) (y - 33) ≡ p' (x - 33) (y - 33)) → kind_at w h p x y ≡ kind_at w h p' x y
unfolding kind_at
kind_at_same w h p p' x y same = go (in_area (area 33 33 (33 + w) (33 + h)) x y) (λ e. same (within (area 33 33 (33 + w) (33 + h)) x y e))
  where
    go : (b : Bool) → (b ≡ true → p (x - 33) (y - 33) ≡ p' (x - 33) (y - 33)) → cond b (p (x - 33) (y - 33)) outside ≡ cond b (p' (x - 33) (y - 33)) outside
    go true f = f refl
    go false f = refl

-- ---- steps
-- (x',y') is within h of (x,y)
pub record Near (h x y x' y' : ℕ) : Type 0 where
  pub right_of : x' ≤ x + h
  pub left_of : x ≤ x' + h
  pub high : y' ≤ y + h
  pub low : y ≤ y' + h

-- two steps that cross stay near
pub near : (h x y : ℕ) (w e : Way) (i j : ℕ) → vertical w ≡ not (vertical e) → i ≤ h → j ≤ h → Near h x y (back_x e j (back_x w i x)) (back_y e j (back_y w i y))
unfolding back_x back_y
near h x y right right i j c a b = absurd (false≢true c)
near h x y right left i j c a b = absurd (false≢true c)
near h x y right up i j c a b = omega arith
near h x y right down i j c a b = omega arith
near h x y left right i j c a b = absurd (false≢true c)
near h x y left left i j c a b = absurd (false≢true c)
near h x y left up i j c a b = omega arith
near h x y left down i j c a b = omega arith
near h x y up right i j c a b = omega arith
near h x y up left i j c a b = omega arith
near h x y up up i j c a b = absurd (true≢false c)
near h x y up down i j c a b = absurd (true≢false c)
near h x y down right i j c a b = omega arith
near h x y down left i j c a b = omega arith
near h x y down up i j c a b = absurd (true≢false c)
near h x y down down i j c a b = absurd (true≢false c)

-- ---- marks
-- two pictures agree on the window's squares within k of (x,y)
abbrev pub AgreeNear : ℕ → ℕ → ℕ → Picture → Picture → ℕ → ℕ → Type 0
AgreeNear k w h p p' x y = (u v : ℕ) → u < w → v < h → u ≤ x + k → x ≤ u + k → v ≤ y + k → y ≤ v + k → p u v ≡ p' u v

seen_local : (k w h : ℕ) (p p' : Picture) (x y : ℕ) → k ≤ 33 → AgreeNear k w h p p' x y → Agree k (seen w h p x y) (seen w h p' x y)
unfolding seen
seen_local k w h p p' x y l same a e c i j hi hj =
    let n = near k (33 + x) (33 + y) a e i j c hi hj in
    kind_at_same w h p p' (back_x e j (back_x a i (33 + x))) (back_y e j (back_y a i (33 + y)))
    (λ q. same _ _ (omega (arith, q)) (omega (arith, q)) (omega (arith, n, q)) (omega (arith, n, q)) (omega (arith, n, q)) (omega (arith, n, q)))

-- a square's mark is decided by the window's squares within the reach of the rules
pub forbidden_local : (k w h : ℕ) (p p' : Picture) (rs : List Rule) (x y : ℕ) → k ≤ 33 → Every (Reaches k) rs → AgreeNear k w h p p' x y → forbidden w h p rs x y ≡ forbidden w h p' rs x y
unfolding forbidden
forbidden_local k w h p p' rs x y l ok same =
    some_of_every (Reaches k) rs (forbids (seen w h p x y)) (forbids (seen w h p' x y)) ok
    (λ r o. forbids_local k r (seen w h p x y) (seen w h p' x y) (seen_local k w h p p' x y l same) o.0 o.1)

-- so, for a sound list, by those within its halo
pub halo_local : (ws : List ℕ) (n t w h : ℕ) (p p' : Picture) (x y : ℕ) → AllSound ws n t → AgreeNear (halo_of ws n) w h p p' x y → forbidden w h p (rules_of ws n) x y ≡ forbidden w h p' (rules_of ws n) x y
halo_local ws n t w h p p' x y ok same = forbidden_local (halo_of ws n) w h p p' (rules_of ws n) x y (omega (arith, halo_small ws n t ok)) (halo_reaches ws n) same
