-- A part read as a number, digit by digit: the value so far and the bytes that are left decide.
use mathlib.Core.Path.{◌≡◌, refl, ◌∙◌}
use mathlib.Core.Bool.{Bool, true, false, ◌&&◌, and-false}
use mathlib.Core.List.{List, [], ◌∷◌}
use Prim.Native.Nat.{ℕ, ◌+◌, ◌-◌, ◌*◌, ◌<◌, ◌≤◌}
use native.Mathlib.Numerals.{add-one}
use native.Mathlib.Omega.{arith}
use lib.Dec.{leb}
use lib.ListN.{length, get_or, drop, drop_of_length-le}
use lib.Seq.{drop-cons}
use borrow.Author.Tests.{le-leb, lt-leb}
use Rattle.text.specs.Number.{digit, digits, value_from, nonempty, is_number, value, pick_number, number_of}
use Rattle.std.specs.Prelude.{Option, Some, None}

-- the number of a part whose first digits have the value v, and whose other bytes are l
pub tail : ℕ → List ℕ → Option ℕ
tail v l = pick_number (digits l && leb (value_from v l) 65535) (value_from v l)

nonempty_true : (l : List ℕ) → (length l ≡ 0 → ⊥) → nonempty l ≡ true
nonempty_true [] n = absurd (n refl)
nonempty_true (c ∷ l) n = refl

pub number_start : (w : List ℕ) → (length w ≡ 0 → ⊥) → number_of w ≡ tail 0 w
unfolding tail
number_start w n = rw (nonempty_true w n)

value_grows : (v : ℕ) (l : List ℕ) → v ≤ value_from v l
unfolding value_from
value_grows v [] = omega arith
value_grows v (c ∷ l) = omega (arith, value_grows (v * 10 + (c - 48)) l)

pub digit_true : (c : ℕ) → 48 ≤ c → c ≤ 57 → digit c ≡ true
digit_true c h k = rw (le-leb 48 c h, le-leb c 57 k)

too_large : (v : ℕ) (l : List ℕ) → 65535 < v → tail v l ≡ None
unfolding tail
too_large v l h = let k : 65535 < value_from v l = omega (arith, value_grows v l) in rw (lt-leb (value_from v l) 65535 k, and-false (digits l))

module _ (w : List ℕ) (i v : ℕ) (h : i < length w) where
  pub number_low : get_or w i 0 < 48 → tail v (drop i w) ≡ None
  unfolding tail digits
  number_low k = rw (drop-cons w i 0 h, lt-leb 48 (get_or w i 0) k)

  pub number_high : 48 ≤ get_or w i 0 → 57 < get_or w i 0 → tail v (drop i w) ≡ None
  unfolding tail digits
  number_high k m = rw (drop-cons w i 0 h, le-leb 48 (get_or w i 0) k, lt-leb (get_or w i 0) 57 m)

  pub number_on : 48 ≤ get_or w i 0 → get_or w i 0 ≤ 57 → tail v (drop i w) ≡ tail (v * 10 + (get_or w i 0 - 48)) (drop (i + 1) w)
  unfolding tail digits value_from
  number_on k m = rw (drop-cons w i 0 h, digit_true (get_or w i 0) k m, add-one i)

  pub number_over : 48 ≤ get_or w i 0 → get_or w i 0 ≤ 57 → 65535 < v * 10 + (get_or w i 0 - 48) → tail v (drop i w) ≡ None
  number_over k m o = number_on k m ∙ too_large _ _ o

pub number_end : (w : List ℕ) (i v : ℕ) → length w ≤ i → v ≤ 65535 → tail v (drop i w) ≡ Some v
unfolding tail digits value_from
number_end w i v h k = rw (drop_of_length-le w h, le-leb v 65535 k)

-- ---- what the answer tells of a part
picked_is : (b : Bool) (n v : ℕ) → Some v ≡ pick_number b n → (b ≡ true) × (n ≡ v)
picked_is true n v e = (refl, cc)
picked_is false n v e = let z : ◌≡◌ {A = ℕ} 0 1 = cc in absurd (omega arith)

picked_not : (b : Bool) (n : ℕ) → None ≡ pick_number b n → b ≡ false
picked_not true n e = let z : ◌≡◌ {A = ℕ} 0 1 = cc in absurd (omega arith)
picked_not false n e = refl

pub number_is : (w : List ℕ) (v : ℕ) → Some v ≡ number_of w → (is_number w ≡ true) × (value w ≡ v)
number_is w v e = picked_is (is_number w) (value w) v e

pub number_not : (w : List ℕ) → None ≡ number_of w → is_number w ≡ false
number_not w e = picked_not (is_number w) (value w) e
