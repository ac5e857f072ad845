-- Marks as bits: a row of bits from its last mark down, and one row more.
use Prim.Native.Nat.{ℕ, zero, suc, ◌+◌, ◌-◌, ◌*◌, ◌/◌, ◌%◌, ◌^◌, ◌<◌, ◌≤◌}
use native.Mathlib.Omega.{arith}
use native.Mathlib.Nat.{pow-succ'}
use native.Mathlib.Decide.{ℕ_discrete}
use mathlib.Core.List.{List}
use mathlib.Core.Path.{◌≡◌, refl, sym, ◌∙◌, ap}
use lib.ListN.{get_or, set, replicate, length-set, length-replicate}
use lib.Seq.{get_or-set_same, get_or-set_other}
use lib.Pow.{pow_pos, pow_mono, shr-shr}
use Rattle.plane.specs.Picture.{bit_of}
use Rattle.piece.specs.Rows.{BitRow, BitRows}

-- ---- a row, from its last mark down to j
pub record RowFrom (m : List ℕ) (at n j r : ℕ) : Type 0 where
  pub small : r < 2 ^ (n - j)
  pub bits : (i : ℕ) → j + i < n → bit_of r i ≡ get_or m (at + (j + i)) 0 % 2

pub from_end : {m : List ℕ} {at n : ℕ} → RowFrom m at n n 0
from_end {m} {at} {n} = record { small = pow_pos (n - n); bits = λ i l. absurd (omega arith) }

bit_low : (r b : ℕ) → b < 2 → bit_of (2 * r + b) 0 ≡ b
bit_low r b l = omega arith

-- a higher bit is a bit of the half
pub bit_half : (n i : ℕ) → bit_of n (suc i) ≡ bit_of (n / 2) i
bit_half n i = let f : 1 + i ≡ suc i = omega arith in ap (λ z. z % 2) (ap (λ z. n / 2 ^ z) (sym f) ∙ sym (shr-shr n 1 i))

bit_up : (r b i : ℕ) → b < 2 → bit_of (2 * r + b) (suc i) ≡ bit_of r i
bit_up r b i l = let e : (2 * r + b) / 2 ≡ r = omega arith in bit_half (2 * r + b) i ∙ ap (λ z. bit_of z i) e

pub from_more : {m : List ℕ} {at n j r b : ℕ} → 0 < j → j ≤ n → RowFrom m at n j r → b ≡ get_or m (at + (j - 1)) 0 % 2 → b < 2 → RowFrom m at n (j - 1) (2 * r + b)
from_more {m} {at} {n} {j} {r} {b} pos most q e l = record {
  small = let f : n - (j - 1) ≡ suc (n - j) = omega arith in rw f (let g = pow-succ' 2 (n - j) in let s = q.small in omega arith);
  bits = each;
}
  where
    each : (i : ℕ) → (j - 1) + i < n → bit_of (2 * r + b) i ≡ get_or m (at + ((j - 1) + i)) 0 % 2
    each zero u = bit_low r b l ∙ e ∙ ap (λ z. get_or m z 0 % 2) (let z : at + (j - 1) ≡ at + ((j - 1) + 0) = omega arith in z)
    each (suc i) u = bit_up r b i l ∙ q.bits i (omega arith) ∙ ap (λ z. get_or m z 0 % 2) (let z : at + (j + i) ≡ at + ((j - 1) + suc i) = omega arith in z)

pub from_start : {m : List ℕ} {at n j r : ℕ} → j ≡ 0 → RowFrom m at n j r → BitRow m at n r
from_start {m} {at} {n} {j} e q = record {
  small = let f : n - j ≡ n = omega arith in rw f at q.small;
  bits = λ i l. q.bits i (omega arith) ∙ ap (λ z. get_or m z 0 % 2) (let z : at + (j + i) ≡ at + i = omega arith in z);
}

-- the next bit fits a word
pub bits_fit : {m : List ℕ} {at n j r : ℕ} → n ≤ 48 → 0 < j → j ≤ n → RowFrom m at n j r → r < 140737488355328
bits_fit {m} {at} {n} {j} l pos most q = let p : 2 ^ (n - j) ≤ 2 ^ 47 = pow_mono {i = n - j} {j = 47} (omega arith) in let s = q.small in omega arith

-- ---- rows
pub rows_start : {m : List ℕ} {x0 y0 nx : ℕ} → BitRows m x0 y0 nx 0 (replicate 48 0)
rows_start = record {
  long = length-replicate {A = ℕ} 48 0;
  row = λ i l. absurd (omega arith);
  rest = λ i l. none 48 i;
}
  where
    none : (n i : ℕ) → ◌≡◌ {A = ℕ} (get_or (replicate n 0) i 0) 0
    none zero i = refl
    none (suc n) zero = refl
    none (suc n) (suc i) = none n i

pub rows_next : {m : List ℕ} {x0 y0 nx i r : ℕ} {vs : List ℕ} → i < 48 → BitRows m x0 y0 nx i vs → BitRow m ((y0 + i) * 82 + x0) nx r → BitRows m x0 y0 nx (i + 1) (set vs i r)
rows_next {m} {x0} {y0} {nx} {i} {r} {vs} l b q = record {
  long = length-set vs i r ∙ b.long;
  row = λ j u. at j u (ℕ_discrete j i);
  rest = λ j u. get_or-set_other vs i j r 0 (λ e. omega arith) ∙ b.rest j (omega arith);
}
  where
    at : (j : ℕ) → j < i + 1 → Dec (j ≡ i) → BitRow m ((y0 + j) * 82 + x0) nx (get_or (set vs i r) j 0)
    at j u (yes e) = rw (e, get_or-set_same vs i r 0 (let s = b.long in omega arith)) q
    at j u (no n) = rw (get_or-set_other vs i j r 0 n) (b.row j (omega (arith, n)))
