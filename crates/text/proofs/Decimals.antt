-- The digits of a number: how a turn of the printing makes them, how many they are, and that a printed number reads back.
use mathlib.Core.Path.{◌≡◌, refl, ◌∙◌}
use mathlib.Core.Bool.{Bool, true, false, cond, ◌&&◌, false≢true}
use mathlib.Core.List.{List, [], ◌∷◌, ◌++◌}
use Prim.Native.Nat.{ℕ, zero, suc, ◌+◌, ◌-◌, ◌*◌, ◌/◌, ◌%◌, ◌^◌, ◌<◌, ◌≤◌}
use native.Mathlib.Nat.{pow-suc}
use native.Mathlib.Omega.{arith}
use lib.Dec.{ltb}
use lib.ListN.{length, length-append}
use borrow.Author.Tests.{lt-ltb, le-ltb, ltb-true, le-leb}
use Rattle.text.specs.Decimal.{decimal_in, decimal}
use Rattle.text.specs.Number.{digit, digits, nonempty, number_of, value_from, value}
use Rattle.std.specs.Prelude.{Some}
use Rattle.text.proofs.Numbers.{digit_true}

pub decimal_none : (k n : ℕ) → k ≡ 0 → decimal_in k n ≡ []
unfolding decimal_in
decimal_none zero n e = refl
decimal_none (suc k) n e = absurd (omega arith)

pub decimal_last : (k n : ℕ) → (k ≡ 0 → ⊥) → n < 10 → decimal_in k n ≡ (48 + n) ∷ []
unfolding decimal_in
decimal_last zero n h less = absurd (h refl)
decimal_last (suc k) n h less = rw (lt-ltb n 10 less)

pub decimal_more : (k n : ℕ) → (k ≡ 0 → ⊥) → 10 ≤ n → decimal_in k n ≡ decimal_in (k - 1) (n / 10) ++ ((48 + n % 10) ∷ [])
unfolding decimal_in
decimal_more zero n h more = absurd (h refl)
decimal_more (suc k) n h more = let e : suc k - 1 ≡ k = omega arith in rw (le-ltb n 10 more, e)

cond_length : (b : Bool) (d e : ℕ) (l : List ℕ) (k : ℕ) → length l ≤ k → length (cond b (d ∷ []) (l ++ (e ∷ []))) ≤ suc k
cond_length true d e l k h = omega arith
cond_length false d e l k h = omega (arith, length-append l (e ∷ []))

pub decimal_length : (k n : ℕ) → length (decimal_in k n) ≤ k
unfolding decimal_in
decimal_length zero n = omega arith
decimal_length (suc k) n = cond_length (ltb n 10) (48 + n) (48 + n % 10) (decimal_in k (n / 10)) k (decimal_length k (n / 10))

-- ---- a printed number reads back
value_last : (a : ℕ) (xs : List ℕ) (d : ℕ) → value_from a (xs ++ (d ∷ [])) ≡ value_from a xs * 10 + (d - 48)
unfolding value_from
value_last a [] d = refl
value_last a (c ∷ xs) d = value_last (a * 10 + (c - 48)) xs d

value_cond : (b : Bool) (n : ℕ) (l : List ℕ) → ltb n 10 ≡ b → value l ≡ n / 10 → value (cond b ((48 + n) ∷ []) (l ++ ((48 + n % 10) ∷ []))) ≡ n
unfolding value_from
value_cond true n l e h = omega arith
value_cond false n l e h = value_last 0 l (48 + n % 10) ∙ omega arith

value_in : (k n : ℕ) → n < 10 ^ k → value (decimal_in k n) ≡ n
unfolding value_from decimal_in
value_in zero n h = omega arith
value_in (suc k) n h =
    let less : n / 10 < 10 ^ k = omega (arith, pow-suc 10 k) in
    value_cond (ltb n 10) n (decimal_in k (n / 10)) refl (value_in k (n / 10) less)

and_both : (a b : Bool) → (a && b) ≡ true → (a ≡ true) × (b ≡ true)
and_both true b e = (refl, e)
and_both false b e = absurd (false≢true e)

digits_last : (xs : List ℕ) (d : ℕ) → digits xs ≡ true → digit d ≡ true → digits (xs ++ (d ∷ [])) ≡ true
unfolding digits
digits_last [] d h e = rw e
digits_last (c ∷ xs) d h e =
    let both : (digit c ≡ true) × (digits xs ≡ true) = and_both (digit c) (digits xs) h in
    rw both.0 (digits_last xs d both.1 e)

digits_cond : (b : Bool) (n : ℕ) (l : List ℕ) → ltb n 10 ≡ b → digits l ≡ true → digits (cond b ((48 + n) ∷ []) (l ++ ((48 + n % 10) ∷ []))) ≡ true
unfolding digits
digits_cond true n l e h = let low : n < 10 = ltb-true n 10 e in rw (digit_true (48 + n) (omega arith) (omega arith))
digits_cond false n l e h = digits_last l (48 + n % 10) h (digit_true (48 + n % 10) (omega arith) (omega arith))

digits_in : (k n : ℕ) → digits (decimal_in k n) ≡ true
unfolding digits decimal_in
digits_in zero n = refl
digits_in (suc k) n = digits_cond (ltb n 10) n (decimal_in k (n / 10)) refl (digits_in k (n / 10))

some_cond : (b : Bool) (x y : ℕ) (l : List ℕ) → nonempty (cond b (x ∷ []) (l ++ (y ∷ []))) ≡ true
some_cond true x y l = refl
some_cond false x y [] = refl
some_cond false x y (c ∷ l) = refl

some_digit : (n : ℕ) → nonempty (decimal n) ≡ true
unfolding decimal_in
some_digit n = some_cond (ltb n 10) (48 + n) (48 + n % 10) (decimal_in 19 (n / 10))

pub decimal_value : (n : ℕ) → n < 10 ^ 20 → value (decimal n) ≡ n
decimal_value n h = value_in 20 n h

-- a number up to 65535 that is printed and read is itself
pub reads_back : (n : ℕ) → n ≤ 65535 → number_of (decimal n) ≡ Some n
reads_back n h =
    let less : n < 10 ^ 20 = omega arith in
    rw (some_digit n, digits_in 20 n, decimal_value n less, le-leb n 65535 h)
