-- What settled says, square by square: it is 1 exactly if no square of the window within k of the area waits. A count is 0 exactly if nothing is counted.
use Prim.Native.Nat.{ℕ, ◌+◌, ◌-◌, ◌≤◌, ◌<◌}
use native.Mathlib.Omega.{arith}
use mathlib.Core.Bool.{Bool, true, false, cond}
use mathlib.Core.Path.{◌≡◌, refl, sym, ◌∙◌, ap}
use mathlib.Core.List.{List}
use lib.Dec.{eqb}
use Rattle.plane.specs.declared.tile.Area.{Area}
use Rattle.plane.specs.Area.{squares_in}
use Rattle.plane.specs.Picture.{Picture, sum_to}
use Rattle.plane.specs.Words.{width, height, picture_of}
use Rattle.plane.proofs.Counting.{none_of, sum_none}
use Rattle.sheet.specs.Report.{around, settled}
use borrow.Author.Tests.{eq-eqb, ne_eqb, eqb-true}

-- (x,y) lies within k of the area
pub record Near (k : ℕ) (a : Area) (x y : ℕ) : Type 0 where
  pub left : a.x1 ≤ x + k
  pub right : x < a.x2 + k
  pub low : a.y1 ≤ y + k
  pub high : y < a.y2 + k

-- ---- squares
no_squares : (p : Picture) (k : ℕ) (a : Area) → ((x y : ℕ) → a.x1 ≤ x → x < a.x2 → a.y1 ≤ y → y < a.y2 → p x y ≡ k → ⊥) → squares_in p k a ≡ 0
unfolding squares_in
no_squares p k a f =
    sum_none (a.y2 - a.y1) _ (λ j v. sum_none (a.x2 - a.x1) _ (λ i u.
    ap {B = ℕ} (λ (b : Bool). cond b 1 0) (ne_eqb (p (a.x1 + i) (a.y1 + j)) k (f (a.x1 + i) (a.y1 + j) (omega arith) (omega arith) (omega arith) (omega arith)))))

squares_none : (p : Picture) (k : ℕ) (a : Area) → squares_in p k a ≡ 0 → (x y : ℕ) → a.x1 ≤ x → x < a.x2 → a.y1 ≤ y → y < a.y2 → p x y ≡ k → ⊥
unfolding squares_in
squares_none p k a e x y l r b t q =
    let i : a.x1 + (x - a.x1) ≡ x = omega arith in
    let j : a.y1 + (y - a.y1) ≡ y = omega arith in
    let z = none_of (a.x2 - a.x1) (λ m. cond (eqb (p (a.x1 + m) (a.y1 + (y - a.y1))) k) 1 0) (none_of (a.y2 - a.y1) (λ n. sum_to (a.x2 - a.x1) (λ m. cond (eqb (p (a.x1 + m) (a.y1 + n)) k) 1 0)) e (y - a.y1) (omega arith)) (x - a.x1) (omega arith) in
    let o : ◌≡◌ {A = ℕ} 1 0 = ap {B = ℕ} (λ (c : Bool). cond c 1 0) (sym (eq-eqb (p (a.x1 + (x - a.x1)) (a.y1 + (y - a.y1))) k ((λ m. p (i m) (j m)) ∙ q))) ∙ z in
    omega arith

-- ---- settled
module _ (ws : List ℕ) (k : ℕ) (a : Area) where
  -- settled: no square near the area waits
  pub settled_clear : settled ws k a ≡ 1 → (x y : ℕ) → x < width ws → y < height ws → Near k a x y → picture_of ws x y ≡ 1 → ⊥
  unfolding settled
  settled_clear e x y u v N q =
      squares_none (picture_of ws) 1 (around (width ws) (height ws) k a) (eqb-true (squares_in (picture_of ws) 1 (around (width ws) (height ws) k a)) 0 (yes (eqb (squares_in (picture_of ws) 1 (around (width ws) (height ws) k a)) 0) e)) x y (omega arith) (omega arith) (omega arith) (omega arith) q
    where
      yes : (b : Bool) → ◌≡◌ {A = ℕ} (cond b 1 0) 1 → b ≡ true
      yes true e = refl
      yes false e = absurd (omega arith)

  -- no square near the area waits: settled
  pub clear_settled : ((x y : ℕ) → x < width ws → y < height ws → Near k a x y → picture_of ws x y ≡ 1 → ⊥) → settled ws k a ≡ 1
  unfolding settled
  clear_settled f =
      ap {B = ℕ} (λ (b : Bool). cond b 1 0) (eq-eqb (squares_in (picture_of ws) 1 (around (width ws) (height ws) k a)) 0
      (no_squares (picture_of ws) 1 (around (width ws) (height ws) k a) (λ x y l r b t. f x y (omega arith) (omega arith) (record { left = omega arith; right = omega arith; low = omega arith; high = omega arith }))))
