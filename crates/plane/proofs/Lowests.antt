-- What the lowest number tells of a list of conditions whose numbers rise: it is the lowest, and a call that answers 0 found all of them met.
use Prim.Native.Nat.{ℕ, zero, suc, ◌≤◌, ◌<◌}
use native.Mathlib.Omega.{arith}
use mathlib.Core.Path.{◌≡◌, refl, subst}
use mathlib.Core.Logic.{inl, inr}
use mathlib.Core.List.{List, [], ◌∷◌, ◌++◌}
use Rattle.std.specs.Prelude.{Result, Ok, Err}
use Rattle.plane.specs.declared.answer.Refusal.{Refusal}
use Rattle.plane.specs.declared.answer.Refusal.TheVariants.{Lengths, Sizes, NoTable, NoRule, Kind, Place, Full}
use Rattle.plane.specs.Answers.{refusal_number, number}
use Rattle.plane.specs.Refusal.{Lowest, if_done}

-- the numbers rise from above m on
abbrev pub Rising : ℕ → List (ℕ × Type 0) → Type 0
Rising m [] = Unit {0}
Rising m (c ∷ cs) = (m < c.0) × Rising c.0 cs

-- every condition holds
abbrev pub AllHold : List (ℕ × Type 0) → Type 0
AllHold [] = Unit {0}
AllHold (c ∷ cs) = c.1 × AllHold cs

-- every condition with a number below a holds
abbrev pub HoldBelow : ℕ → List (ℕ × Type 0) → Type 0
HoldBelow a [] = Unit {0}
HoldBelow a (c ∷ cs) = (c.0 < a → c.1) × HoldBelow a cs

-- a call that answers 0 found every condition met
pub all_hold : (m : ℕ) (cs : List (ℕ × Type 0)) → Rising m cs → Lowest cs 0 → AllHold cs
all_hold m [] r p = tt
all_hold m (c ∷ cs) r (inl p) = absurd (omega (arith, r.0, p.1))
all_hold m (c ∷ cs) r (inr p) = (p.0, all_hold c.0 cs r.1 p.1)

above : (m a : ℕ) (cs : List (ℕ × Type 0)) → Rising m cs → a ≤ m → HoldBelow a cs
above m a [] r u = tt
above m a (c ∷ cs) r u = ((λ v. absurd (omega (arith, r.0))), above c.0 a cs r.1 (omega (arith, r.0)))

-- no number below the answer applies
pub lowest_least : (m a : ℕ) (cs : List (ℕ × Type 0)) → Rising m cs → Lowest cs a → HoldBelow a cs
lowest_least m a [] r p = tt
lowest_least m a (c ∷ cs) r (inl p) = ((λ v. absurd (omega (arith, p.1))), above c.0 a cs r.1 (omega (arith, p.1)))
lowest_least m a (c ∷ cs) r (inr p) = ((λ v. p.0), lowest_least c.0 a cs r.1 p.1)

-- ---- a call that tests in two steps
pub lowest_first : (cs ds : List (ℕ × Type 0)) (a : ℕ) → Lowest cs a → 0 < a → Lowest (cs ++ ds) a
lowest_first [] ds a p u = absurd (omega (arith, p))
lowest_first (c ∷ cs) ds a (inl p) u = inl p
lowest_first (c ∷ cs) ds a (inr p) u = inr (p.0, lowest_first cs ds a p.1 u)

pub left_as_is : {A : Type 0} (a : ℕ) (new old : A) → 0 < a → old ≡ if_done a new old
left_as_is zero new old u = absurd (omega arith)
left_as_is (suc n) new old u = refl

pub refusal_positive : (r : Refusal) → 0 < refusal_number r
refusal_positive Lengths = omega arith
refusal_positive Sizes = omega arith
refusal_positive NoTable = omega arith
refusal_positive NoRule = omega arith
refusal_positive Kind = omega arith
refusal_positive Place = omega arith
refusal_positive Full = omega arith

-- the first step's answer, taken apart
pub told_no : {R : Type 0} (cs : List (ℕ × Type 0)) {a : Result R Refusal} {why : Refusal} → Lowest cs (number a) → a ≡ Err why → Lowest cs (refusal_number why)
told_no {R} cs p e = subst (λ (b : Result R Refusal). Lowest cs (number b)) e p

pub told_done : {R : Type 0} (cs : List (ℕ × Type 0)) {a : Result R Refusal} {x : R} → Rising 0 cs → Lowest cs (number a) → a ≡ Ok x → AllHold cs
told_done {R} cs r p e = all_hold 0 cs r (subst (λ (b : Result R Refusal). Lowest cs (number b)) e p)

-- passed by the first step, and answered by the second
pub lowest_after : (cs ds : List (ℕ × Type 0)) (a : ℕ) → AllHold cs → Lowest ds a → Lowest (cs ++ ds) a
lowest_after [] ds a p q = q
lowest_after (c ∷ cs) ds a p q = inr (p.0, lowest_after cs ds a p.1 q)

-- the numbers of a test of tables rise
pub one_three : (0 < 1) × ((1 < 3) × Unit {0})
one_three = (omega arith, (omega arith, tt))
