-- What the spacing macro's ranges promise of its sets, and how many rules it makes: one product, or the sum of two.
use Prim.Native.Nat.{ℕ, ◌+◌, ◌*◌, ◌/◌, ◌^◌, ◌<◌, ◌≤◌, min}
use mathlib.Core.Bool.{Bool, true, false, not, cond, ◌&&◌, ◌||◌}
use mathlib.Core.List.{[], ◌++◌, append-nil}
use mathlib.Core.Logic.{◌⊎◌, inl, inr, ⊎_elim}
use mathlib.Core.Path.{◌≡◌, refl, sym, ◌∙◌, ap, ap₂}
use native.Mathlib.Omega.{arith}
use native.Mathlib.Decide.{ℕ_discrete}
use lib.ListN.{length, length-append}
use lib.Dec.{eqb, leb}
use lib.Count.{ones}
use lib.Bits.{bit_and}
use lib.Pow.{pow_mono}
use borrow.Author.Tests.{eqb-true, eqb-false, eq-eqb, ne_eqb, not-true}
use Rattle.std.specs.Int.{bit_at}
use Rattle.std.proofs.lemmas.Nat.Bits.{bit_at_and, bit_at-lt, bit_at_above, bit_at-zero, same_from_bits}
use Rattle.std.proofs.lemmas.Bool.Decides.{nat_tests}
use Rattle.plane.proofs.Basics.{and_left, and_right, lt_or_ge}
use Rattle.rules.specs.Some.{some}
use Rattle.rules.specs.Sets.{member, within, others, both, disjoint}
use Rattle.macros.specs.Macros.{taken, second, half_spacing, spacing, spacing_sound}
use Rattle.macros.specs.Expansion.{spacing_count}
use Rattle.macros.specs.declared.pairs.Pairs.{Pairs}
use Rattle.macros.specs.Both.{rules_of, rules_of_both}
use Rattle.std.specs.Prelude.{None, Some}
use Rattle.rules.proofs.Searches.{or_cases, some_false, some_none}
use Rattle.rules.proofs.Sets.{within_below, others_below, disjoint_sum}
use Rattle.macros.proofs.Counts.{rows_count}

-- ---- the types of both sets, or of one
pub taken_both : (a b touch : ℕ) → (eqb touch 1 && not (eqb a b)) ≡ true → taken a b touch ≡ a + b
unfolding taken
taken_both a b touch e = ap (λ x. cond x (a + b) a) e

pub taken_one : (a b touch : ℕ) → (eqb touch 1 && not (eqb a b)) ≡ false → taken a b touch ≡ a
unfolding taken
taken_one a b touch e = ap (λ x. cond x (a + b) a) e

-- a set, and another that is equal to it or adds up with it
taken_below : (t a b touch : ℕ) → a < 2 ^ t → (a ≡ b) ⊎ (a + b < 2 ^ t) → taken a b touch < 2 ^ t
taken_below t a b touch l h = go (eqb touch 1 && not (eqb a b)) refl h
  where
    go : (x : Bool) → (eqb touch 1 && not (eqb a b)) ≡ x → (a ≡ b) ⊎ (a + b < 2 ^ t) → taken a b touch < 2 ^ t
    go true e (inl q) = absurd (eqb-false a b (not-true (eqb a b) (and_right (eqb touch 1) (not (eqb a b)) e)) q)
    go true e (inr s) = let x = taken_both a b touch e in omega (arith, x, s)
    go false e s = let x = taken_one a b touch e in omega (arith, x, l)

-- a bit is in both of two words where it is in each
bit_of_both : (x y : ℕ) → x < 2 → y < 2 → (eqb x 1 && eqb y 1) ≡ eqb (min x y) 1
bit_of_both x y p q = grind (arith, nat_tests)

-- two sets share no type where their words share no bit
pub disjoint_and : (t a b : ℕ) → a / 2 ^ t ≡ 0 → b / 2 ^ t ≡ 0 → disjoint t a b ≡ eqb (bit_and a b) 0
unfolding disjoint both member within
disjoint_and t a b p q = go (ℕ_discrete (bit_and a b) 0)
  where
    each : (i : ℕ) → both a b i ≡ eqb (bit_at (bit_and a b) i) 1
    each i = bit_of_both (bit_at a i) (bit_at b i) (bit_at-lt a i) (bit_at-lt b i) ∙ ap (λ n. eqb n 1) (sym (bit_at_and a b i))

    -- no bit at t or above, and below t none that is not in both sets
    clear : (i : ℕ) → some t (both a b) ≡ false → bit_at (bit_and a b) i ≡ 0
    clear i e =
        ⊎_elim (λ (l : i < t). let n = eqb-false (bit_at (bit_and a b) i) 1 (sym (each i) ∙ some_false t (both a b) e i l) in omega (arith, bit_at-lt (bit_and a b) i, n))
        (λ (l : t ≤ i). let h = bit_at_above a t i (within_below t a (eq-eqb (a / 2 ^ t) 0 p)) l in bit_at_and a b i ∙ omega (arith, h)) (lt_or_ge i t)

    go : Dec (bit_and a b ≡ 0) → not (some t (both a b)) ≡ eqb (bit_and a b) 0
    go (yes e) =
        ap not (some_none t (both a b) (λ i l. each i ∙ ap (λ n. eqb n 1) (ap (λ n. bit_at n i) e ∙ bit_at-zero i)))
        ∙ sym (eq-eqb (bit_and a b) 0 e)
    go (no f) = same (some t (both a b)) refl
      where
        same : (x : Bool) → some t (both a b) ≡ x → not (some t (both a b)) ≡ eqb (bit_and a b) 0
        same true e = ap not e ∙ sym (ne_eqb (bit_and a b) 0 f)
        same false e = absurd (f (same_from_bits (bit_and a b) 0 (λ i. clear i e ∙ sym (bit_at-zero i))))

-- it fits a word
pub taken_fits : (t a b touch : ℕ) → t ≤ 16 → taken a b touch < 2 ^ t → taken a b touch < 65536
taken_fits t a b touch l h = omega (arith, pow_mono {i = t} {j = 16} l, h)

-- what the ranges promise of the two sets
pub record Spaceable (t a b touch : ℕ) : Type 0 where
  pub first : a < 2 ^ t
  pub second : b < 2 ^ t
  pub first_taken : taken a b touch < 2 ^ t
  pub second_taken : taken b a touch < 2 ^ t

pub spaceable : (t a b d touch : ℕ) → spacing_sound t a b d touch ≡ true → Spaceable t a b touch
unfolding spacing_sound disjoint
spaceable t a b d touch ok = made (within_below t a (and_left (within t a) (within t b) two)) (within_below t b (and_right (within t a) (within t b) two))
  where
    two : (within t a && within t b) ≡ true
    two =
        and_left (within t a && within t b) (not (eqb a 0))
        (and_left (within t a && within t b && not (eqb a 0)) (not (eqb b 0))
        (and_left (within t a && within t b && not (eqb a 0) && not (eqb b 0)) (leb 1 d && leb d 16 && leb touch 1)
        (and_left (within t a && within t b && not (eqb a 0) && not (eqb b 0) && (leb 1 d && leb d 16 && leb touch 1)) (eqb a b || not (some t (both a b))) ok)))

    sum : a < 2 ^ t → b < 2 ^ t → (a ≡ b) ⊎ (a + b < 2 ^ t)
    sum p q =
        ⊎_elim (λ e. inl (eqb-true a b e)) (λ e. inr (disjoint_sum t a b p q (some_false t (both a b) (not-true (some t (both a b)) e))))
        (or_cases (eqb a b) (not (some t (both a b)))
        (and_right (within t a && within t b && not (eqb a 0) && not (eqb b 0) && (leb 1 d && leb d 16 && leb touch 1)) (eqb a b || not (some t (both a b))) ok))

    made : a < 2 ^ t → b < 2 ^ t → Spaceable t a b touch
    made p q = record {
      first = p;
      second = q;
      first_taken = taken_below t a b touch p (sum p q);
      second_taken = taken_below t b a touch q (⊎_elim (λ e. inl (sym e)) (λ (s : a + b < 2 ^ t). inr (omega arith)) (sum p q));
    }

-- ---- equal sets, and sets that differ
pub spacing_same : (t a b d touch reason : ℕ) → a ≡ b → spacing t a b d touch reason ≡ half_spacing t a b d touch reason
unfolding spacing
spacing_same t a b d touch reason e =
    ap (λ x. half_spacing t a b d touch reason ++ cond x [] (half_spacing t b a d touch reason)) (eq-eqb a b e) ∙ append-nil (half_spacing t a b d touch reason)

pub spacing_two : (t a b d touch reason : ℕ) → (a ≡ b → ⊥) → spacing t a b d touch reason ≡ half_spacing t a b d touch reason ++ half_spacing t b a d touch reason
unfolding spacing
spacing_two t a b d touch reason e =
    ap (λ x. half_spacing t a b d touch reason ++ cond x [] (half_spacing t b a d touch reason)) (ne_eqb a b e)

-- as the code puts them together
pub both_same : (t a b d touch reason : ℕ) (p : Pairs) → a ≡ b → rules_of p ≡ half_spacing t a b d touch reason → rules_of_both p None ≡ spacing t a b d touch reason
both_same t a b d touch reason p e h = h ∙ sym (spacing_same t a b d touch reason e)

pub both_two : (t a b d touch reason : ℕ) (p q : Pairs) → (a ≡ b → ⊥) → rules_of p ≡ half_spacing t a b d touch reason → rules_of q ≡ half_spacing t b a d touch reason → rules_of_both p (Some q) ≡ spacing t a b d touch reason
both_two t a b d touch reason p q n h k = ap₂ (λ x y. x ++ y) h k ∙ sym (spacing_two t a b d touch reason n)

half_count : (t a b d touch reason : ℕ) → a < 2 ^ t → length (half_spacing t a b d touch reason) ≡ ones a * ones (second t a b touch)
unfolding half_spacing second
half_count t a b d touch reason l =
    rows_count t a (second t a b touch) (record { d = d; allowed = others t b; corners = second t a b touch; reason = reason }) l (others_below t (taken a b touch))

-- the types of A times the types 2, and if A and B differ the same with A and B exchanged
pub spacing_count_lem : (t a b d touch reason : ℕ) → spacing_sound t a b d touch ≡ true → length (spacing t a b d touch reason) ≡ spacing_count t a b touch
unfolding spacing_count
spacing_count_lem t a b d touch reason ok = go (spaceable t a b d touch ok) (ℕ_discrete a b)
  where
    go : Spaceable t a b touch → Dec (a ≡ b) → length (spacing t a b d touch reason) ≡ ones a * ones (second t a b touch) + cond (eqb a b) 0 (ones b * ones (second t b a touch))
    go S (yes e) =
        ap length (spacing_same t a b d touch reason e) ∙ half_count t a b d touch reason S.first
        ∙ omega (arith, ap (λ x. cond x 0 (ones b * ones (second t b a touch))) (eq-eqb a b e))
    go S (no n) =
        ap length (spacing_two t a b d touch reason n) ∙ length-append (half_spacing t a b d touch reason) (half_spacing t b a d touch reason)
        ∙ ap₂ (λ x y. x + y) (half_count t a b d touch reason S.first) (half_count t b a d touch reason S.second)
        ∙ ap (λ x. ones a * ones (second t a b touch) + cond x 0 (ones b * ones (second t b a touch))) (sym (ne_eqb a b n))
