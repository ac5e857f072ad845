-- Sets of types: their size is the count of ones, the members of the complement are the others, and disjoint sets add up to their union. By halving.
use Prim.Native.Nat.{ℕ, zero, suc, ◌+◌, ◌-◌, ◌/◌, ◌%◌, ◌^◌, ◌<◌}
use mathlib.Core.Bool.{Bool, true, false, not, cond, ◌&&◌, ◌||◌, true≢false}
use mathlib.Core.Path.{◌≡◌, sym, ◌∙◌, ap, ap₂}
use native.Mathlib.Omega.{arith}
use native.Mathlib.Nat.{div-one, div-div-eq-div-mul, div-lt_iff_lt-mul, pow-succ'}
use native.Mathlib.Decide.{ℕ_discrete}
use lib.Dec.{eqb}
use lib.Pow.{pow_pos}
use lib.Count.{ones, ones_step, ones-le}
use borrow.Author.Tests.{eqb-true, eq-eqb, ne_eqb}
use Rattle.plane.specs.Picture.{sum_to}
use Rattle.plane.proofs.Basics.{and_both}
use Rattle.plane.proofs.Counting.{sum_eq}
use Rattle.rules.specs.Sets.{member, within, others, both}

pub within_below : (t s : ℕ) → within t s ≡ true → s < 2 ^ t
unfolding within
within_below t s e =
    let z = eqb-true (s / 2 ^ t) 0 e in
    let l : s / 2 ^ t < 1 = omega arith in
    let h = (div-lt_iff_lt-mul (pow_pos t)).0 l in
    omega (arith, h)

-- ---- halving
pub member_suc : (S i : ℕ) → member S (suc i) ≡ member (S / 2) i
unfolding member
member_suc S i = ap (λ n. eqb (n % 2) 1) (ap (λ p. S / p) (pow-succ' 2 i) ∙ sym (div-div-eq-div-mul S 2 (2 ^ i)))

pub member_zero : (S : ℕ) → member S 0 ≡ eqb (S % 2) 1
unfolding member
member_zero S = ap (λ n. eqb (n % 2) 1) (div-one S)

half : (t S : ℕ) → S < 2 ^ suc t → S / 2 < 2 ^ t
half t S h = let e = pow-succ' 2 t in omega (arith, e)

-- ---- the size
abbrev pub bit : Bool → ℕ
bit b = cond b 1 0

-- how many types below t a set holds
unfoldable pub size : ℕ → ℕ → ℕ
size t S = sum_to t λ i. bit (member S i)

-- the sum from the front
sum_front : (n : ℕ) (g : ℕ → ℕ) → sum_to (suc n) g ≡ g 0 + sum_to n (λ i. g (suc i))
unfolding sum_to
sum_front zero g = omega arith
sum_front (suc n) g = let h = sum_front n g in omega arith

low_bit : (S : ℕ) → bit (eqb (S % 2) 1) ≡ S % 2
low_bit S = go (ℕ_discrete (S % 2) 1)
  where
    go : Dec (S % 2 ≡ 1) → bit (eqb (S % 2) 1) ≡ S % 2
    go (yes e) = ap bit (eq-eqb (S % 2) 1 e) ∙ sym e
    go (no n) = ap bit (ne_eqb (S % 2) 1 n) ∙ omega (arith, n)

pub size_is : (t S : ℕ) → S < 2 ^ t → ones S ≡ size t S
unfolding size sum_to
size_is zero S h = let e : S ≡ 0 = omega arith in ap ones e ∙ none
  where
    none : ones 0 ≡ 0
    none = let l = ones-le 0 0 (omega arith) in omega arith
size_is (suc t) S h =
    ones_step S
    ∙ ap₂ (λ x y. x + y) (sym (low_bit S) ∙ ap bit (sym (member_zero S)))
    (size_is t (S / 2) (half t S h) ∙ sum_eq t (λ i. bit (member (S / 2) i)) (λ i. bit (member S (suc i))) (λ i l. ap bit (sym (member_suc S i))))
    ∙ sym (sum_front t (λ i. bit (member S i)))

-- ---- the complement
flip_bit : (a b : ℕ) → a ≡ 1 - b → b < 2 → eqb a 1 ≡ not (eqb b 1)
flip_bit a b e l = go (ℕ_discrete b 1)
  where
    go : Dec (b ≡ 1) → eqb a 1 ≡ not (eqb b 1)
    go (yes p) = ne_eqb a 1 (λ z. omega arith) ∙ ap not (sym (eq-eqb b 1 p))
    go (no n) = eq-eqb a 1 (omega (arith, n)) ∙ ap not (sym (ne_eqb b 1 n))

-- everything outside a set holds the types below t that the set lacks
pub others_member : (t S i : ℕ) → S < 2 ^ t → i < t → member (others t S) i ≡ not (member S i)
unfolding others
others_member zero S i h l = absurd (omega arith)
others_member (suc t) S zero h l =
    let e = pow-succ' 2 t in
    member_zero (2 ^ suc t - 1 - S)
    ∙ flip_bit ((2 ^ suc t - 1 - S) % 2) (S % 2) (omega (arith, e)) (omega arith)
    ∙ ap not (sym (member_zero S))
others_member (suc t) S (suc i) h l =
    let e = pow-succ' 2 t in
    let p : (2 ^ suc t - 1 - S) / 2 ≡ 2 ^ t - 1 - S / 2 = omega (arith, e) in
    member_suc (2 ^ suc t - 1 - S) i ∙ ap (λ n. member n i) p ∙ others_member t (S / 2) i (half t S h) (omega arith) ∙ ap not (sym (member_suc S i))

pub others_below : (t S : ℕ) → others t S < 2 ^ t
unfolding others
others_below t S = omega (arith, pow_pos t)

-- ---- disjoint sets
-- what is not shared is not shared by the halves
both_half : (a b t : ℕ) → ((i : ℕ) → i < suc t → both a b i ≡ false) → (i : ℕ) → i < t → both (a / 2) (b / 2) i ≡ false
unfolding both
both_half a b t f i l = ap₂ (λ x y. x && y) (sym (member_suc a i)) (sym (member_suc b i)) ∙ f (suc i) (omega arith)

-- not both low bits are set
low_apart : (a b t : ℕ) → ((i : ℕ) → i < suc t → both a b i ≡ false) → a % 2 + b % 2 < 2
unfolding both
low_apart a b t f = go (ℕ_discrete (a % 2) 1) (ℕ_discrete (b % 2) 1)
  where
    go : Dec (a % 2 ≡ 1) → Dec (b % 2 ≡ 1) → a % 2 + b % 2 < 2
    go (yes x) (yes y) =
        absurd (true≢false (sym (and_both (member a 0) (member b 0) (member_zero a ∙ eq-eqb (a % 2) 1 x) (member_zero b ∙ eq-eqb (b % 2) 1 y)) ∙ f 0 (omega arith)))
    go (no x) y = omega (arith, x)
    go (yes x) (no y) = omega (arith, y)

-- their sum has no type at t or above
pub disjoint_sum : (t a b : ℕ) → a < 2 ^ t → b < 2 ^ t → ((i : ℕ) → i < t → both a b i ≡ false) → a + b < 2 ^ t
disjoint_sum zero a b p q f = omega (arith, p, q)
disjoint_sum (suc t) a b p q f =
    let e = pow-succ' 2 t in
    let low = low_apart a b t f in
    let ih = disjoint_sum t (a / 2) (b / 2) (half t a p) (half t b q) (both_half a b t f) in
    omega (arith, e)

low_or : (a b : ℕ) → a % 2 + b % 2 < 2 → eqb ((a + b) % 2) 1 ≡ (eqb (a % 2) 1 || eqb (b % 2) 1)
low_or a b l = go (ℕ_discrete (a % 2) 1) (ℕ_discrete (b % 2) 1)
  where
    go : Dec (a % 2 ≡ 1) → Dec (b % 2 ≡ 1) → eqb ((a + b) % 2) 1 ≡ (eqb (a % 2) 1 || eqb (b % 2) 1)
    go (yes x) y = eq-eqb ((a + b) % 2) 1 (omega arith) ∙ sym (ap (λ z. z || eqb (b % 2) 1) (eq-eqb (a % 2) 1 x))
    go (no x) (yes y) = eq-eqb ((a + b) % 2) 1 (omega (arith, x)) ∙ sym (ap₂ (λ z u. z || u) (ne_eqb (a % 2) 1 x) (eq-eqb (b % 2) 1 y))
    go (no x) (no y) = ne_eqb ((a + b) % 2) 1 (λ z. omega (arith, x, y)) ∙ sym (ap₂ (λ z u. z || u) (ne_eqb (a % 2) 1 x) (ne_eqb (b % 2) 1 y))

-- it holds the types of both
pub sum_member : (t a b i : ℕ) → ((j : ℕ) → j < t → both a b j ≡ false) → i < t → member (a + b) i ≡ (member a i || member b i)
sum_member zero a b i f l = absurd (omega arith)
sum_member (suc t) a b zero f l =
    member_zero (a + b) ∙ low_or a b (low_apart a b t f) ∙ ap₂ (λ x y. x || y) (sym (member_zero a)) (sym (member_zero b))
sum_member (suc t) a b (suc i) f l =
    let low = low_apart a b t f in
    let p : (a + b) / 2 ≡ a / 2 + b / 2 = omega arith in
    member_suc (a + b) i ∙ ap (λ n. member n i) p ∙ sum_member t (a / 2) (b / 2) i (both_half a b t f) (omega arith)
    ∙ ap₂ (λ x y. x || y) (sym (member_suc a i)) (sym (member_suc b i))
