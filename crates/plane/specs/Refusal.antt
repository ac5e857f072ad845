-- Which number a call answers, the lowest that applies, and what it leaves. One definition for all calls of all crates.
use Rattle.std.specs.Prelude.{ℕ, zero, suc, ◌≡◌, ◌⊎◌, List, [], ◌∷◌}
use Rattle.std.proofs.Common.{sym, ◌∙◌, ap, inl, inr}

infix 68 ◌unless◌
-- a number that says no, and the condition that it is given for breaking
abbrev pub ◌unless◌ : ℕ → Type 0 → ℕ × Type 0
n unless P = (n, P)

-- a is the number of the first condition that is broken, and 0 if all hold; a call lists them in rising number
abbrev pub Lowest : List (ℕ × Type 0) → ℕ → Type 0
Lowest [] a = a ≡ 0
Lowest (c ∷ cs) a = ((c.1 → ⊥) × (a ≡ c.0)) ⊎ (c.1 × Lowest cs a)

-- no two numbers are the lowest
pub lowest_once : (cs : List (ℕ × Type 0)) {a b : ℕ} → Lowest cs a → Lowest cs b → a ≡ b
lowest_once [] p q = p ∙ sym q
lowest_once (c ∷ cs) (inl p) (inl q) = p.1 ∙ sym q.1
lowest_once (c ∷ cs) (inl p) (inr q) = absurd (p.0 q.0)
lowest_once (c ∷ cs) (inr p) (inl q) = absurd (q.0 p.0)
lowest_once (c ∷ cs) (inr p) (inr q) = lowest_once cs p.1 q.1

-- what a call leaves: the new where it answers 0, and the old where it says no
abbrev pub if_done : {A : Type 0} → ℕ → A → A → A
if_done zero new old = new
if_done (suc n) new old = old

-- the outcome of a call: its number, and what it leaves of what was `old`
pub record Outcome {A : Type 0} (refusals : List (ℕ × Type 0)) (old new : A) (answer : ℕ) (after : A) : Type 0 where
  pub number : Lowest refusals answer
  pub leaves : after ≡ if_done answer new old

-- there is one
pub outcome_once : {A : Type 0} {cs : List (ℕ × Type 0)} {old new x y : A} {a b : ℕ} → Outcome cs old new a x → Outcome cs old new b y → (a ≡ b) × (x ≡ y)
outcome_once {A} {cs} {old} {new} p q =
    let e = lowest_once cs p.number q.number in
    (e, p.leaves ∙ (ap (λ (n : ℕ). if_done n new old) e ∙ sym q.leaves))
