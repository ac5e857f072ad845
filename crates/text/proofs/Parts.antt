-- The bytes that pass a test at a place of a line (blanks, or a part), the parts of a line, and its end without blanks.
use mathlib.Core.Path.{◌≡◌, refl, sym, ap, ◌∙◌}
use mathlib.Core.Bool.{Bool, true, false, cond, not, true≢false}
use mathlib.Core.List.{List, [], ◌∷◌, ◌++◌}
use Prim.Native.Nat.{ℕ, suc, ◌+◌, ◌-◌, ◌≤◌}
use native.Mathlib.Numerals.{one-add}
use native.Mathlib.Omega.{arith}
use lib.Dec.{eqb}
use lib.ListN.{length, take, drop, length-drop, length-take, length-append}
use borrow.Author.Tests.{eq-eqb, ne_eqb, eqb-true}
use Rattle.std.specs.Prelude.{reverse}
use Rattle.std.specs.List.{prefix_len}
use Rattle.std.proofs.lemmas.List.{reverse-reverse, length-reverse}
use Rattle.std.proofs.lemmas.List.Folds.{length-prefix_len}
use Rattle.std.proofs.lemmas.Grind.{reverse_onto}
use Rattle.text.specs.Part.{blank, unblank, leading, part_length, part_end, onto, parts, parts_left, on_front, unblanked}

-- ---- the bytes in front
-- the bytes in front that pass a test, by the library's word
pub leading_is : (f : ℕ → Bool) (l : List ℕ) → prefix_len f l ≡ leading f l
unfolding leading
leading_is f [] = refl
leading_is f (c ∷ l) = rw (leading_is f l, one-add (leading f l)) refl

pub leading_taken : (f : ℕ → Bool) (l : List ℕ) → length (take (prefix_len f l) l) ≡ leading f l
leading_taken f l = length-prefix_len f l ∙ leading_is f l

cond_le : (b : Bool) (k n : ℕ) → k ≤ n → cond b (suc k) 0 ≤ suc n
cond_le true k n h = omega arith
cond_le false k n h = omega arith

pub leading_within : (f : ℕ → Bool) (l : List ℕ) → leading f l ≤ length l
unfolding leading
leading_within f [] = omega arith
leading_within f (c ∷ l) = cond_le (f c) (leading f l) (length l) (leading_within f l)

-- ---- the first part, and those after it
pub part_end_within : (l : List ℕ) (at : ℕ) → at ≤ length l → part_end l at ≤ length l
part_end_within l at h = omega (arith, leading_within unblank (drop at l), length-drop at l)

first_of : (b : Bool) (c : ℕ) (l : List ℕ) (ps : List (List ℕ)) (k : ℕ) → ps ≡ parts l → ps ≡ take k l ∷ parts_left (drop k l)
    → cond b ([] ∷ ps) (onto c ps) ≡ take (cond (not b) (suc k) 0) (c ∷ l) ∷ parts_left (drop (cond (not b) (suc k) 0) (c ∷ l))
unfolding onto
first_of true c l ps k is e = ap (λ (p : List (List ℕ)). [] ∷ p) is
first_of false c l ps k is e = rw e

pub parts_first : (l : List ℕ) → parts l ≡ take (part_length l) l ∷ parts_left (drop (part_length l) l)
unfolding parts leading
parts_first [] = refl
parts_first (c ∷ l) = first_of (blank c) c l (parts l) (part_length l) refl (parts_first l)

-- ---- without the blanks at the end
on_snoc : (c d : ℕ) (l : List ℕ) → on_front c (l ++ (d ∷ [])) ≡ c ∷ (l ++ (d ∷ []))
unfolding on_front
on_snoc c d [] = refl
on_snoc c d (a ∷ l) = refl

unblanked_blank : (l : List ℕ) (d : ℕ) → d ≡ 32 → unblanked (l ++ (d ∷ [])) ≡ unblanked l
unfolding unblanked on_front
unblanked_blank [] d e = rw (eq-eqb d 32 e)
unblanked_blank (c ∷ l) d e = ap (on_front c) (unblanked_blank l d e)

unblanked_full : (l : List ℕ) (d : ℕ) → (d ≡ 32 → ⊥) → unblanked (l ++ (d ∷ [])) ≡ l ++ (d ∷ [])
unfolding unblanked on_front
unblanked_full [] d n = rw (ne_eqb d 32 n)
unblanked_full (c ∷ l) d n = rw (unblanked_full l d n) (on_snoc c d l)

-- what is behind a line's last byte that is no blank, counted from its end
reversed_by : (b : Bool) (c : ℕ) (r : List ℕ) → eqb c 32 ≡ b → length r ≡ prefix_len blank r + length (unblanked (reverse r)) → suc (length r) ≡ cond b (1 + prefix_len blank r) 0 + length (unblanked (reverse (c ∷ r)))
reversed_by true c r e h = rw (reverse_onto r c [], unblanked_blank (reverse r) c (eqb-true c 32 e)) (omega (arith, h))
reversed_by false c r e h = rw (reverse_onto r c [], unblanked_full (reverse r) c (λ q. true≢false (sym (eq-eqb c 32 q) ∙ e))) (omega (arith, length-append (reverse r) (c ∷ []), length-reverse r))

unblanked_reversed : (r : List ℕ) → length r ≡ prefix_len blank r + length (unblanked (reverse r))
unfolding unblanked
unblanked_reversed [] = refl
unblanked_reversed (c ∷ r) = reversed_by (eqb c 32) c r refl (unblanked_reversed r)

-- the length without the blanks at the end, where n of them were counted
pub unblanked_counted : (l : List ℕ) (n : ℕ) → n ≡ length (take (prefix_len blank (reverse l)) (reverse l)) → length l - n ≡ length (unblanked l)
unblanked_counted l n e =
    let all = unblanked_reversed (reverse l) in
    omega (arith, e, length-prefix_len blank (reverse l), all, ap (λ (k : List ℕ). length (unblanked k)) (reverse-reverse l), length-reverse l)

cond_take : (b : Bool) (c : ℕ) (l : List ℕ) → take (length (cond b [] (c ∷ []))) (c ∷ l) ≡ cond b [] (c ∷ [])
cond_take true c l = refl
cond_take false c l = refl

front_take : (c : ℕ) (l u : List ℕ) → take (length u) l ≡ u → take (length (on_front c u)) (c ∷ l) ≡ on_front c u
unfolding on_front
front_take c l [] e = cond_take (blank c) c l
front_take c l (d ∷ u) e = ap (λ (z : List ℕ). c ∷ z) e

pub unblanked_take : (l : List ℕ) → take (length (unblanked l)) l ≡ unblanked l
unfolding unblanked
unblanked_take [] = refl
unblanked_take (c ∷ l) = front_take c l (unblanked l) (unblanked_take l)

pub unblanked_within : (l : List ℕ) → length (unblanked l) ≤ length l
unblanked_within l = omega (arith, length-take (length (unblanked l)) l, ap length (unblanked_take l))
