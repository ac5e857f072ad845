-- The equal bits of a word around a place: up to the lowest one above it, and down to the highest one below it, of a word that has ones at the other bits.
use Prim.Native.Nat.{ℕ, ◌+◌, ◌-◌, ◌*◌, ◌/◌, ◌%◌, ◌^◌, ◌≤◌, ◌<◌, min}
use native.Mathlib.Omega.{arith}
use mathlib.Core.Path.{◌≡◌, sym, ◌∙◌, ap}
use mathlib.Core.Logic.{⊎_elim}
use Rattle.std.proofs.Common.{w64}
use Rattle.std.specs.Int.{leading_zeros, trailing_zeros}
use lib.Dec.{lit≤}
use Rattle.std.proofs.Math.Nat.{div-div-eq-div-mul, div-le_self, mod-lt, pow-le-pow_right, pow-suc}
use Rattle.std.proofs.lemmas.Nat.{div-add-mod', leading_length, one_shl, pow-add, pow_below, pow_pos}
use Rattle.std.proofs.lemmas.Nat.Bits.{bit_at_above, bit_at_cat_low, bit_at_not, bit_at-lt, bit_at-trailing_zeros, bit_at-zero}
use Rattle.plane.specs.Picture.{bit_of}
use Rattle.plane.proofs.Basics.{eq_or_ne, lt_or_ge}
use Rattle.brush.specs.Brush.{OtherBits, SameBits}

-- the bits of a word shifted down
bit_shifted : (n i j : ℕ) → bit_of (n / 2 ^ i) j ≡ bit_of n (i + j)
bit_shifted n i j = ap (λ m. m % 2) (div-div-eq-div-mul n (2 ^ i) (2 ^ j) ∙ ap (λ m. n / m) (sym (pow-add 2 i j)))

-- the bits below place i
bit_below : (n i j : ℕ) → j < i → bit_of (n % 2 ^ i) j ≡ bit_of n j
bit_below n i j u = sym (bit_at_cat_low (n / 2 ^ i) i (n % 2 ^ i) j u) ∙ ap (λ m. bit_of m j) (div-add-mod' n (2 ^ i))

-- a word with ones at the other bits: itself, or its complement
pub other_not : {word i : ℕ} → word < 2 ^ 64 → i < 64 → (bit_of word i ≡ 0 → ⊥) → OtherBits word i (2 ^ 64 - 1 - word)
other_not {word} {i} h u f = (omega arith, λ j v e. omega (arith, bit_at_not w64 word j h v, bit_at-lt word j, bit_at-lt word i))

-- how far down the bits below place i are zero: m bits are left
below_zero : (n i : ℕ) → i < 64 → (m : ℕ) × (64 - leading_zeros w64 (n % 2 ^ i) ≡ m) × (m ≤ i) × ((j : ℕ) → m ≤ j → j < i → bit_of n j ≡ 0)
below_zero n i u =
    let a = n % 2 ^ i in
    let s : a < 2 ^ i = mod-lt n (pow_pos i) in
    let d = leading_length 64 a (omega (arith, s, pow_below i 64 u)) in
    let m = d.0 in (
      m,
      omega (arith, d.1),
      ⊎_elim (λ (v : i < m). absurd (omega (arith, s, d.3, pow-suc 2 i, pow-le-pow_right {n = 2} (lit≤ tt) v))) (λ (v : m ≤ i). v) (lt_or_ge i m),
      λ j v w. sym (bit_below n i j w) ∙ bit_at_above a m j d.2 v,
    )

-- how far up the bits from place k on are zero
above_zero : (n k j : ℕ) → n < 2 ^ 64 → k < 64 → j < 64 → k ≤ j → j < k + trailing_zeros w64 (n / 2 ^ k) → bit_of n j ≡ 0
above_zero n k j h u o v w =
    ⊎_elim (λ (e : n / 2 ^ k ≡ 0). sym (shifted j v) ∙ (ap (λ m. bit_of m (j - k)) e ∙ bit_at-zero (j - k)))
    (λ f. sym (shifted j v) ∙ (bit_at-trailing_zeros w64 (n / 2 ^ k) (omega arith) (omega (arith, div-le_self n (2 ^ k)))).2 (j - k) (omega arith))
    (eq_or_ne (n / 2 ^ k) 0)
  where
    shifted : (j : ℕ) → k ≤ j → bit_of (n / 2 ^ k) (j - k) ≡ bit_of n j
    shifted j v = bit_shifted n k (j - k) ∙ ap (bit_of n) (omega arith)

-- so these are the equal bits around place i
pub bits_around : {word i n other k l r : ℕ} → OtherBits word i other → i < n → n ≤ 48 → k ≡ i → l ≡ i + 1
    → r ≡ min (i + 1 + trailing_zeros w64 (other / 2 ^ l)) n
    → (64 - leading_zeros w64 (other % (1 * 2 ^ k % 2 ^ 64)) ≤ i) × (i < r) × (r ≤ n) × SameBits word (bit_of word i) (64 - leading_zeros w64 (other % (1 * 2 ^ k % 2 ^ 64))) r
bits_around {word} {i} {n} {other} {k} {l} {r} O u v e f g =
    let B = below_zero other i (omega arith) in
    let q : 64 - leading_zeros w64 (other % (1 * 2 ^ k % 2 ^ 64)) ≡ B.0 = ap (λ m. 64 - leading_zeros w64 (other % (1 * 2 ^ m % 2 ^ 64))) e ∙ (ap (λ m. 64 - leading_zeros w64 (other % m)) (one_shl i 64 (omega arith)) ∙ B.1) in
    rw q (
      B.2,
      omega arith,
      omega arith,
      record {
        order = omega (arith, B.2);
        each = λ j a b. ⊎_elim (λ (o : j < i). O.1 j (omega arith) (B.3 j a o))
            (λ (o : i ≤ j). ⊎_elim (λ (p : j ≡ i). ap (bit_of word) p) (λ p. O.1 j (omega arith) (above_zero other l j O.0 (omega arith) (omega arith) (omega arith) (omega arith))) (eq_or_ne j i))
            (lt_or_ge j i);
      },
    )
