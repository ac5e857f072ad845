-- How many rules an expansion makes: the product of its sets' counts of ones, row by row.
use Prim.Native.Nat.{ℕ, zero, suc, ◌+◌, ◌*◌, ◌^◌, ◌<◌}
use mathlib.Core.Bool.{Bool, true, false, not, cond, ◌&&◌}
use mathlib.Core.List.{[], ◌∷◌}
use mathlib.Core.Path.{◌≡◌, refl, sym, ◌∙◌, ap, ap₂}
use native.Mathlib.Omega.{arith}
use native.Mathlib.Nat.{add-mul, zero-mul}
use lib.ListN.{length, length-append}
use lib.Dec.{eqb, leb}
use lib.Count.{ones}
use Rattle.plane.specs.Picture.{joined, sum_to}
use Rattle.plane.proofs.Basics.{and_left}
use Rattle.plane.proofs.Counting.{length_joined, sum_eq}
use Rattle.macros.specs.declared.pairs.Made.{Made}
use Rattle.rules.specs.Sets.{member, within, others}
use Rattle.macros.specs.Macros.{cell, made, row, row_if, rows, width, width_sound}
use Rattle.macros.specs.Expansion.{width_count}
use Rattle.rules.proofs.Sets.{bit, size, size_is, within_below, others_below}

cell_length : (second : ℕ) (m : Made) (a b : ℕ) → length (cell second m a b) ≡ bit (member second b)
unfolding cell
cell_length second m a b = go (member second b)
  where
    go : (t : Bool) → length (cond t (made m a b ∷ []) []) ≡ bit t
    go true = refl
    go false = refl

row_length : (t second : ℕ) (m : Made) (a : ℕ) → length (row t second m a) ≡ size t second
unfolding row size
row_length t second m a = length_joined t (cell second m a) ∙ sum_eq t (λ b. length (cell second m a b)) (λ b. bit (member second b)) (λ b l. cell_length second m a b)

row_if_length : (t first second : ℕ) (m : Made) (a : ℕ) → length (row_if t first second m a) ≡ bit (member first a) * size t second
unfolding row_if
row_if_length t first second m a = go (member first a)
  where
    go : (b : Bool) → length (cond b (row t second m a) []) ≡ bit b * size t second
    go true = row_length t second m a ∙ omega arith
    go false = omega arith

rows_size : (n t first second : ℕ) (m : Made) → length (rows n t first second m) ≡ size n first * size t second
unfolding rows size sum_to joined
rows_size zero t first second m = sym (zero-mul (size t second))
rows_size (suc n) t first second m =
    length-append (rows n t first second m) (row_if t first second m n)
    ∙ ap₂ (λ x y. x + y) (rows_size n t first second m) (row_if_length t first second m n)
    ∙ sym (add-mul (size n first) (bit (member first n)) (size t second))

-- the rules of two sets
pub rows_count : (t first second : ℕ) (m : Made) → first < 2 ^ t → second < 2 ^ t → length (rows t t first second m) ≡ ones first * ones second
rows_count t first second m a b = rows_size t t first second m ∙ ap₂ (λ x y. x * y) (sym (size_is t first a)) (sym (size_is t second b))

-- ---- width
pub width_below : (t s d : ℕ) → width_sound t s d ≡ true → s < 2 ^ t
unfolding width_sound
width_below t s d e =
    within_below t s (and_left (within t s) (not (eqb s 0)) (and_left (within t s && not (eqb s 0)) (leb 1 d) (and_left (within t s && not (eqb s 0) && leb 1 d) (leb d 16) e)))

-- the types outside S times those in S
pub width_count_lem : (t s d reason : ℕ) → width_sound t s d ≡ true → length (width t s d reason) ≡ width_count t s
unfolding width
width_count_lem t s d reason e = rows_count t (others t s) s (record { d = d; allowed = s; corners = s; reason = reason }) (others_below t s) (width_below t s d e)

-- the rules, with the set that the code makes
pub width_rows_lem : (t s d reason : ℕ) {f : ℕ} → f ≡ others t s → width t s d reason ≡ rows t t f s (record { d = d; allowed = s; corners = s; reason = reason })
unfolding width
width_rows_lem t s d reason e = ap (λ x. rows t t x s (record { d = d; allowed = s; corners = s; reason = reason })) (sym e)
