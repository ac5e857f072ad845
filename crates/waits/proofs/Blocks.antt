-- The blocks of a window: a search in a block from and to a witness, and the lowest waiting piece, by number and in words.
use Prim.Native.Nat.{ℕ, ◌+◌, ◌-◌, ◌*◌, ◌/◌, ◌%◌, ◌<◌, ◌≤◌}
use native.Mathlib.Omega.{arith}
use native.Mathlib.Nat.{div-add-mod', mod-eq_of_lt, div-eq_of_lt, mul-add-mod_self_right, mul-add-div_right, mul-le-mul_right, suc-mul, mul_comm}
use mathlib.Core.Bool.{Bool, true, false, not, cond, ◌&&◌, true≢false}
use mathlib.Core.Path.{◌≡◌, refl, sym, ◌∙◌, ap, ap₂}
use mathlib.Core.Logic.{◌⊎◌, inl, inr, ⊎_elim}
use lib.Dec.{eqb, ltb}
use borrow.Author.Tests.{ltb-true, ltb-false, lt-ltb, eqb-false, ne_eqb, not-true, not-false}
use Rattle.plane.specs.Picture.{Picture}
use Rattle.plane.proofs.Basics.{and_left, and_right, lt_or_ge, is_false}
use Rattle.plane.proofs.Runs.{Extent, extent_is}
use Rattle.rules.specs.Some.{some}
use Rattle.rules.proofs.Searches.{some_at, some_has, some_same}
use Rattle.std.specs.Prelude.{Option, Some, None}
use Rattle.waits.specs.declared.block.Block.{Block}
use Rattle.waits.specs.Pieces.{block, blocks, some_in, in_window, waits_at, piece_waits, lowest_piece, lowest_block, Lowest, LowestOf}

-- ---- a search in a block
-- (x,y) is a square of the block at column bx, row by, and passes
pub record FoundIn (bx by : ℕ) (f : ℕ → ℕ → Bool) (x y : ℕ) : Type 0 where
  pub left_of : 16 * bx ≤ x
  pub right_of : x < 16 * bx + 16
  pub low : 16 * by ≤ y
  pub high : y < 16 * by + 16
  pub passes : f x y ≡ true

pub some_in_has : (bx by : ℕ) (f : ℕ → ℕ → Bool) → some_in bx by f ≡ true → (x : ℕ) × (y : ℕ) × FoundIn bx by f x y
unfolding some_in
some_in_has bx by f e =
    let a = some_has 16 (λ v. some 16 (λ u. f (16 * bx + u) (16 * by + v))) e in
    let b = some_has 16 (λ u. f (16 * bx + u) (16 * by + a.0)) a.2 in
    (16 * bx + b.0, 16 * by + a.0, record { left_of = omega arith; right_of = omega (arith, b.1); low = omega arith; high = omega (arith, a.1); passes = b.2 })

pub some_in_at : (bx by : ℕ) (f : ℕ → ℕ → Bool) (x y : ℕ) → FoundIn bx by f x y → some_in bx by f ≡ true
unfolding some_in
some_in_at bx by f x y i =
    let p : 16 * bx + (x - 16 * bx) ≡ x = omega (arith, i.left_of) in
    let q : 16 * by + (y - 16 * by) ≡ y = omega (arith, i.low) in
    some_at 16 (λ v. some 16 (λ u. f (16 * bx + u) (16 * by + v))) (y - 16 * by) (omega (arith, i.low, i.high))
    (some_at 16 (λ u. f (16 * bx + u) (16 * by + (y - 16 * by))) (x - 16 * bx) (omega (arith, i.left_of, i.right_of)) (ap₂ f p q ∙ i.passes))

-- tests that agree on the squares of the block
pub some_in_same : (bx by : ℕ) (f g : ℕ → ℕ → Bool) → ((x y : ℕ) → 16 * bx ≤ x → x < 16 * bx + 16 → 16 * by ≤ y → y < 16 * by + 16 → f x y ≡ g x y) → some_in bx by f ≡ some_in bx by g
unfolding some_in
some_in_same bx by f g e =
    some_same 16 (λ v. some 16 (λ u. f (16 * bx + u) (16 * by + v))) (λ v. some 16 (λ u. g (16 * bx + u) (16 * by + v)))
    (λ v a. some_same 16 (λ u. f (16 * bx + u) (16 * by + v)) (λ u. g (16 * bx + u) (16 * by + v))
    (λ u b. e (16 * bx + u) (16 * by + v) (omega arith) (omega arith) (omega arith) (omega arith)))

-- ---- waiting
-- a waiting square: in the window, and not 0
pub record Waits (w h : ℕ) (p : Picture) (x y : ℕ) : Type 0 where
  pub column : x < w
  pub row : y < h
  pub kind : p x y ≡ 0 → ⊥

pub waits_at_lem : (w h : ℕ) (p : Picture) (x y : ℕ) → Waits w h p x y → waits_at w h p x y ≡ true
unfolding waits_at in_window
waits_at_lem w h p x y i = rw (lt-ltb x w i.column, lt-ltb y h i.row, ne_eqb (p x y) 0 i.kind)

pub waits_in : (w h : ℕ) (p : Picture) (x y : ℕ) → waits_at w h p x y ≡ true → Waits w h p x y
unfolding waits_at in_window
waits_in w h p x y e =
    let i = and_left (ltb x w && ltb y h) (not (eqb (p x y) 0)) e in
    record {
      column = ltb-true x w (and_left (ltb x w) (ltb y h) i);
      row = ltb-true y h (and_right (ltb x w) (ltb y h) i);
      kind = eqb-false (p x y) 0 (not-true (eqb (p x y) 0) (and_right (ltb x w && ltb y h) (not (eqb (p x y) 0)) e));
    }

-- a waiting piece has a square of the window
pub waits_inside : (w h : ℕ) (p : Picture) (bx by : ℕ) → piece_waits w h p bx by ≡ true → (16 * bx < w) × (16 * by < h)
unfolding piece_waits
waits_inside w h p bx by e =
    let a = some_in_has bx by (waits_at w h p) e in
    let f = a.2 in
    let i = waits_in w h p a.0 a.1 f.passes in
    (omega (arith, f.left_of, i.column), omega (arith, f.low, i.row))

-- ---- the number of a block: row times the columns, and column
abbrev number : ℕ → ℕ → ℕ → ℕ
number c bx by = by * c + bx

number_column : (c bx by : ℕ) → bx < c → number c bx by % c ≡ bx
number_column c bx by l = mul-add-mod_self_right by c bx ∙ mod-eq_of_lt l

number_row : (c bx by : ℕ) → bx < c → number c bx by / c ≡ by
number_row c bx by l = let e = mul-add-div_right {m = c} (omega arith) by bx in let z = div-eq_of_lt l in omega (arith, e, z)

-- a row lower is a number lower
row_below : (c bx by cx cy : ℕ) → cx < c → cy < by → number c cx cy < number c bx by
row_below c bx by cx cy l r = let m = mul-le-mul_right c r in omega (arith, m, suc-mul cy c)

number_less : (c r bx by : ℕ) → bx < c → by < r → number c bx by < c * r
number_less c r bx by l m = let a = mul-le-mul_right c m in omega (arith, a, suc-mul by c, mul_comm c r)

-- no greater number: a higher row, or the row and no column further left
number_order : (c bx by cx cy : ℕ) → cx < c → number c bx by ≤ number c cx cy → (by < cy) ⊎ ((by ≡ cy) × (bx ≤ cx))
number_order c bx by cx cy l n = ⊎_elim
    (λ (u : by < cy). inl u)
    (λ (u : cy ≤ by). ⊎_elim
    (λ (v : cy < by). absurd (omega (arith, row_below c bx by cx cy l v)))
    (λ (v : by ≤ cy). let e : by ≡ cy = omega arith in inr (e, omega (arith, ap (λ z. z * c) e)))
    (lt_or_ge cy by))
    (lt_or_ge by cy)

-- ---- the lowest
module _ (w h : ℕ) (p : Picture) where
  idle : ℕ → Bool
  idle n = not (piece_waits w h p (n % blocks w) (n / blocks w))

  least : Extent idle 0 (blocks w * blocks h) (lowest_piece w h p)
  unfolding lowest_piece idle
  least = extent_is (λ n. not (piece_waits w h p (n % blocks w) (n / blocks w))) 0 (blocks w * blocks h)

  -- the number of a waiting piece is not idle, and no less than the lowest
  busy : (bx by : ℕ) → piece_waits w h p bx by ≡ true → (number (blocks w) bx by < blocks w * blocks h) × (bx < blocks w) × (lowest_piece w h p ≤ number (blocks w) bx by)
  unfolding idle
  busy bx by e =
      let i = waits_inside w h p bx by e in
      let l : bx < blocks w = omega (arith, i.0) in
      let m : by < blocks h = omega (arith, i.1) in
      let n = number_less (blocks w) (blocks h) bx by l m in (
        n,
        l,
        ⊎_elim
            (λ (u : number (blocks w) bx by < lowest_piece w h p).
            absurd (true≢false (sym e ∙ sym (ap₂ (piece_waits w h p) (number_column (blocks w) bx by l) (number_row (blocks w) bx by l)) ∙ not-true (piece_waits w h p (number (blocks w) bx by % blocks w) (number (blocks w) bx by / blocks w)) (least.pass (number (blocks w) bx by) (omega arith) u))))
            (λ u. u)
            (lt_or_ge (number (blocks w) bx by) (lowest_piece w h p)),
      )

  lowest_found : lowest_piece w h p < blocks w * blocks h → Lowest w h p (lowest_piece w h p % blocks w) (lowest_piece w h p / blocks w)
  unfolding idle
  lowest_found l =
      let n = lowest_piece w h p in
      let q : piece_waits w h p (n % blocks w) (n / blocks w) ≡ true = not-false (piece_waits w h p (n % blocks w) (n / blocks w)) (least.fail (omega arith)) in
      let i = waits_inside w h p (n % blocks w) (n / blocks w) q in
      record {
        column = i.0;
        row = i.1;
        waits = q;
        least = λ cx cy e. let b = busy cx cy e in number_order (blocks w) (n % blocks w) (n / blocks w) cx cy b.1 (omega (arith, b.2, div-add-mod' n (blocks w)));
      }

  none_found : blocks w * blocks h ≤ lowest_piece w h p → (bx by : ℕ) → piece_waits w h p bx by ≡ false
  none_found l bx by = is_false (piece_waits w h p bx by) (λ e. let b = busy bx by e in omega (arith, b.0, b.2))

  lowest_is : LowestOf w h p (lowest_block w h p)
  unfolding lowest_block
  lowest_is = go (ltb (lowest_piece w h p) (blocks w * blocks h)) refl
    where
      go : (b : Bool) → ltb (lowest_piece w h p) (blocks w * blocks h) ≡ b → LowestOf w h p (cond b (Some (block (lowest_piece w h p % blocks w) (lowest_piece w h p / blocks w))) None)
      go true e = lowest_found (ltb-true (lowest_piece w h p) (blocks w * blocks h) e)
      go false e = none_found (ltb-false (lowest_piece w h p) (blocks w * blocks h) e)

  -- the lowest is one
  lowest_one : {ax ay bx by : ℕ} → Lowest w h p ax ay → Lowest w h p bx by → (ax ≡ bx) × (ay ≡ by)
  lowest_one {ax} {ay} {bx} {by} a b = ⊎_elim
      (λ u. ⊎_elim (λ v. absurd (omega arith)) (λ v. absurd (omega arith)) (b.least ax ay a.waits))
      (λ u. ⊎_elim (λ v. absurd (omega arith)) (λ v. (omega arith, omega arith)) (b.least ax ay a.waits))
      (a.least bx by b.waits)

  lowest_same : (a b : Option Block) → LowestOf w h p a → LowestOf w h p b → a ≡ b
  lowest_same (Some a) (Some b) l m = let e = lowest_one l m in ap Some (ap₂ block e.0 e.1)
  lowest_same (Some a) None l m = absurd (true≢false (sym l.waits ∙ m a.x a.y))
  lowest_same None (Some b) l m = absurd (true≢false (sym m.waits ∙ l b.x b.y))
  lowest_same None None l m = refl

  -- in words, and back
  pub lowest_block_lem : (b : Option Block) → b ≡ lowest_block w h p → LowestOf w h p b
  lowest_block_lem b e = rw e lowest_is

  pub block_lowest : (b : Option Block) → LowestOf w h p b → b ≡ lowest_block w h p
  block_lowest b l = lowest_same b (lowest_block w h p) l lowest_is
