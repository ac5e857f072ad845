-- How many pieces pass a test: no more than those that pass one of two, and one fewer where one no longer does. So a paint adds no more waiting pieces than it touches, and a piece done takes one away.
use Prim.Native.Nat.{ℕ, ◌+◌, ◌/◌, ◌≤◌, ◌<◌}
use native.Mathlib.Omega.{arith}
use mathlib.Core.Bool.{Bool, true, false, cond, ◌&&◌, true≢false}
use mathlib.Core.Path.{◌≡◌, refl, sym, ◌∙◌, ap}
use mathlib.Core.Logic.{◌⊎◌, inl, inr, ⊎_elim}
use borrow.Author.Tests.{lt-ltb}
use Rattle.plane.specs.declared.tile.Area.{Area}
use Rattle.plane.specs.Picture.{Picture, in_area, painted, sum_to}
use Rattle.plane.proofs.Basics.{bool_cases, eq_or_ne, is_false}
use Rattle.plane.proofs.Counting.{none_of, sum_eq, sum_less, sum_none, sum_split}
use Rattle.rules.proofs.Searches.{same_truth}
use Rattle.rules.proofs.Window.{area_of, within}
use Rattle.waits.specs.Pieces.{blocks, in_window, piece_waits, pieces, some_in, touched, touches, waiting_pieces, waits_at}
use Rattle.piece.specs.Remark.{near_area}
use Rattle.waits.proofs.Blocks.{FoundIn, Waits, some_in_at, some_in_has, waits_at_lem, waits_in, waits_inside}

-- ---- pieces that pass
pub bit_split : (a b c : Bool) → (a ≡ true → (b ≡ true) ⊎ (c ≡ true)) → cond a 1 0 ≤ cond b 1 0 + cond c 1 0
bit_split true b c f = ⊎_elim (λ e. rw e (omega arith)) (λ e. rw e (omega arith)) (f refl)
bit_split false b c f = omega arith

pub bit_le : (a b : Bool) → (a ≡ true → b ≡ true) → cond a 1 0 ≤ cond b 1 0
bit_le true b f = rw (f refl) (omega arith)
bit_le false b f = omega arith

-- each that passes f passes g or k
pieces_split : (w h : ℕ) (f g k : ℕ → ℕ → Bool) → ((bx by : ℕ) → f bx by ≡ true → (g bx by ≡ true) ⊎ (k bx by ≡ true)) → pieces w h f ≤ pieces w h g + pieces w h k
unfolding pieces
pieces_split w h f g k e =
    sum_split (blocks h) (λ by. sum_to (blocks w) (λ bx. cond (f bx by) 1 0)) (λ by. sum_to (blocks w) (λ bx. cond (g bx by) 1 0)) (λ by. sum_to (blocks w) (λ bx. cond (k bx by) 1 0))
    (λ by l. sum_split (blocks w) (λ bx. cond (f bx by) 1 0) (λ bx. cond (g bx by) 1 0) (λ bx. cond (k bx by) 1 0) (λ bx m. bit_split (f bx by) (g bx by) (k bx by) (e bx by)))

-- one that passes g does not pass f; the others pass both or neither
pieces_less : (w h : ℕ) (f g : ℕ → ℕ → Bool) (bx by : ℕ) → bx < blocks w → by < blocks h → f bx by ≡ false → g bx by ≡ true
    → ((cx cy : ℕ) → (cx ≡ bx → cy ≡ by → ⊥) → f cx cy ≡ g cx cy) → pieces w h f + 1 ≡ pieces w h g
unfolding pieces
pieces_less w h f g bx by l m gone was same =
    sum_less (blocks h) (λ y. sum_to (blocks w) (λ x. cond (f x y) 1 0)) (λ y. sum_to (blocks w) (λ x. cond (g x y) 1 0)) by m
    (sum_less (blocks w) (λ x. cond (f x by) 1 0) (λ x. cond (g x by) 1 0) bx l (rw (gone, was))
    (λ x a ne. ap (λ (b : Bool). cond b 1 0) (same x by (λ p q. ne p))))
    (λ y a ne. sum_eq (blocks w) (λ x. cond (f x y) 1 0) (λ x. cond (g x y) 1 0) (λ x b. ap (λ (b : Bool). cond b 1 0) (same x y (λ p q. ne q))))

pieces_none : (w h : ℕ) (f : ℕ → ℕ → Bool) → ((bx by : ℕ) → f bx by ≡ false) → pieces w h f ≡ 0
unfolding pieces
pieces_none w h f e =
    sum_none (blocks h) (λ by. sum_to (blocks w) (λ bx. cond (f bx by) 1 0)) (λ by m. sum_none (blocks w) (λ bx. cond (f bx by) 1 0) (λ bx l. ap (λ (b : Bool). cond b 1 0) (e bx by)))

none_pass : (w h : ℕ) (f : ℕ → ℕ → Bool) → pieces w h f ≡ 0 → (bx by : ℕ) → bx < blocks w → by < blocks h → f bx by ≡ true → ⊥
unfolding pieces
none_pass w h f e bx by l m t =
    let z = none_of (blocks w) (λ x. cond (f x by) 1 0) (none_of (blocks h) (λ y. sum_to (blocks w) (λ x. cond (f x y) 1 0)) e by m) bx l in
    let o : ◌≡◌ {A = ℕ} 1 0 = ap (λ (b : Bool). cond b 1 0) (sym t) ∙ z in
    omega arith

-- ---- pieces that wait
-- a square that was found, by another test
found_as : {bx by : ℕ} {f : ℕ → ℕ → Bool} (g : ℕ → ℕ → Bool) {x y : ℕ} → FoundIn bx by f x y → g x y ≡ true → some_in bx by g ≡ true
found_as {bx} {by} g {x} {y} i e = some_in_at bx by g x y (record { left_of = i.left_of; right_of = i.right_of; low = i.low; high = i.high; passes = e })

module _ (w h : ℕ) where
  -- a waiting square makes its piece wait
  square_waits : (p : Picture) (x y : ℕ) → Waits w h p x y → piece_waits w h p (x / 16) (y / 16) ≡ true
  unfolding piece_waits
  square_waits p x y i =
      some_in_at (x / 16) (y / 16) (waits_at w h p) x y (record { left_of = omega arith; right_of = omega arith; low = omega arith; high = omega arith; passes = waits_at_lem w h p x y i })

  -- a waiting piece has a waiting square
  pub piece_has : (p : Picture) (bx by : ℕ) → piece_waits w h p bx by ≡ true → (x : ℕ) × (y : ℕ) × FoundIn bx by (waits_at w h p) x y × Waits w h p x y
  unfolding piece_waits
  piece_has p bx by e = let a = some_in_has bx by (waits_at w h p) e in (a.0, a.1, a.2, waits_in w h p a.0 a.1 a.2.passes)

  -- a piece that does not wait has none
  pub idle_square : (p : Picture) (x y : ℕ) → x < w → y < h → piece_waits w h p (x / 16) (y / 16) ≡ false → p x y ≡ 0
  idle_square p x y u v e = ⊎_elim
      (λ z. z)
      (λ (n : p x y ≡ 0 → ⊥). absurd (true≢false (sym (square_waits p x y (record { column = u; row = v; kind = n })) ∙ e)))
      (eq_or_ne (p x y) 0)

  -- no piece waits: no square does
  pub nothing_waits : (p : Picture) → waiting_pieces w h p ≡ 0 → (x y : ℕ) → x < w → y < h → p x y ≡ 0
  unfolding waiting_pieces
  nothing_waits p e x y u v = idle_square p x y u v (is_false (piece_waits w h p (x / 16) (y / 16)) (none_pass w h (piece_waits w h p) e (x / 16) (y / 16) (omega arith) (omega arith)))

  pub no_pieces : (p : Picture) → ((bx by : ℕ) → piece_waits w h p bx by ≡ false) → waiting_pieces w h p ≡ 0
  unfolding waiting_pieces
  no_pieces p e = pieces_none w h (piece_waits w h p) e

  -- and back
  pub no_squares_wait : (p : Picture) → ((x y : ℕ) → x < w → y < h → p x y ≡ 0) → waiting_pieces w h p ≡ 0
  no_squares_wait p z = no_pieces p (λ bx by. is_false (piece_waits w h p bx by) (λ e. let a = piece_has p bx by e in a.3.kind (z a.0 a.1 a.3.column a.3.row)))

  -- a piece on whose squares two pictures agree
  pub piece_as : (p q : Picture) (bx by : ℕ) → ((x y : ℕ) → FoundIn bx by (waits_at w h p) x y → Waits w h p x y → p x y ≡ q x y) → piece_waits w h p bx by ≡ true → piece_waits w h q bx by ≡ true
  unfolding piece_waits
  piece_as p q bx by same e =
      let a = piece_has p bx by e in
      let i = a.3 in
      found_as (waits_at w h q) a.2 (waits_at_lem w h q a.0 a.1 (record { column = i.column; row = i.row; kind = λ z. i.kind (same a.0 a.1 a.2 i ∙ z) }))

  -- ---- q is p with an area set to 1
  module _ (p q : Picture) (a : Area) (is : (x y : ℕ) → x < w → y < h → q x y ≡ painted p a 1 x y) where
    waits_or_touched : (bx by : ℕ) → piece_waits w h q bx by ≡ true → (piece_waits w h p bx by ≡ true) ⊎ (touches w h a bx by ≡ true)
    unfolding piece_waits touches painted in_window
    waits_or_touched bx by e =
        let f = piece_has q bx by e in
        let x = f.0 in
        let y = f.1 in
        let i = f.3 in
        ⊎_elim
        (λ (b : in_area a x y ≡ true). inr (found_as (λ u v. in_window w h u v && in_area a u v) f.2 (rw (lt-ltb x w i.column, lt-ltb y h i.row, b))))
        (λ (b : in_area a x y ≡ false). inl (found_as (waits_at w h p) f.2 (waits_at_lem w h p x y (record {
          column = i.column;
          row = i.row;
          kind = λ z. i.kind (is x y i.column i.row ∙ (ap (λ (c : Bool). cond c 1 (p x y)) b ∙ z));
        }))))
        (bool_cases (in_area a x y))

    -- no more pieces wait than did and are touched
    pub painted_pieces : waiting_pieces w h q ≤ waiting_pieces w h p + touched w h a
    unfolding waiting_pieces touched
    painted_pieces = pieces_split w h (piece_waits w h q) (piece_waits w h p) (touches w h a) waits_or_touched

  -- ---- q is p with a block set to 0
  module _ (p q : Picture) (bx by : ℕ) (is : (x y : ℕ) → x < w → y < h → q x y ≡ painted p (near_area w h 0 bx by) 0 x y) where
    -- a square of the block does not wait
    block_done : piece_waits w h q bx by ≡ false
    unfolding painted
    block_done = is_false (piece_waits w h q bx by) (λ e.
        let a = piece_has q bx by e in
        let x = a.0 in
        let y = a.1 in
        let f = a.2 in
        let i = a.3 in
        i.kind (is x y i.column i.row ∙ ap (λ (c : Bool). cond c 0 (p x y)) (area_of (near_area w h 0 bx by) x y
        (record { left_of = omega (arith, f.left_of); right_of = omega (arith, f.right_of, i.column); low = omega (arith, f.low); high = omega (arith, f.high, i.row) }))))

    -- one of another is as it was
    other_square : (g : ℕ → ℕ → Bool) (cx cy x y : ℕ) → (cx ≡ bx → cy ≡ by → ⊥) → FoundIn cx cy g x y → x < w → y < h → q x y ≡ p x y
    unfolding painted
    other_square g cx cy x y n f u v =
        is x y u v ∙ ap (λ (c : Bool). cond c 0 (p x y)) (is_false (in_area (near_area w h 0 bx by) x y) (λ e.
        let i = within (near_area w h 0 bx by) x y e in
        n (omega (arith, f.left_of, f.right_of, i.left_of, i.right_of)) (omega (arith, f.low, f.high, i.low, i.high))))

    other_block : (cx cy : ℕ) → (cx ≡ bx → cy ≡ by → ⊥) → piece_waits w h q cx cy ≡ piece_waits w h p cx cy
    other_block cx cy n = same_truth (piece_waits w h q cx cy) (piece_waits w h p cx cy)
        (piece_as q p cx cy (λ x y f i. other_square (waits_at w h q) cx cy x y n f i.column i.row))
        (piece_as p q cx cy (λ x y f i. sym (other_square (waits_at w h p) cx cy x y n f i.column i.row)))

    -- if the block waited, one piece fewer waits
    pub cleared_pieces : piece_waits w h p bx by ≡ true → waiting_pieces w h q + 1 ≡ waiting_pieces w h p
    unfolding waiting_pieces
    cleared_pieces e =
        let i = waits_inside w h p bx by e in
        pieces_less w h (piece_waits w h q) (piece_waits w h p) bx by (omega (arith, i.0)) (omega (arith, i.1)) block_done e other_block
