-- Each macro has one outcome: two that meet its statement have the same answer and leave the same words. An answer is known by its numbers.
use Prim.Native.Nat.{ℕ}
use mathlib.Core.Bool.{Bool}
use mathlib.Core.List.{List}
use mathlib.Core.Path.{◌≡◌, ap}
use Rattle.plane.specs.Refusal.{outcome_once}
use Rattle.std.specs.Prelude.{Result}
use Rattle.plane.specs.declared.answer.Refusal.{Refusal}
use Rattle.plane.specs.Answers.{number, value}
use Rattle.plane.proofs.Once.{value_once}
use Rattle.rules.specs.declared.rule.Rule.{Rule}
use Rattle.macros.specs.Expansion.{RuleList, Expanded, Widened, Spaced}

macro_once : {ws after after' : List ℕ} {used t : ℕ} {ok : Bool} {rs : List Rule} (r r' : Result ℕ Refusal)
    → Expanded ws used t ok rs (number r) (value r) after → Expanded ws used t ok rs (number r') (value r') after' → (r ≡ r') × (after ≡ after')
macro_once r r' p q =
    let e = outcome_once p.outcome q.outcome in
    (value_once r r' e.0 (ap (λ (l : RuleList). l.used) e.1), ap (λ (l : RuleList). l.words) e.1)

pub width_once : {ws after after' : List ℕ} {used t : ℕ} (s d reason : ℕ) (r r' : Result ℕ Refusal)
    → Widened ws used t s d reason (number r) (value r) after → Widened ws used t s d reason (number r') (value r') after' → (r ≡ r') × (after ≡ after')
width_once s d reason r r' p q = macro_once r r' p q

pub spacing_once : {ws after after' : List ℕ} {used t : ℕ} (a b d touch reason : ℕ) (r r' : Result ℕ Refusal)
    → Spaced ws used t a b d touch reason (number r) (value r) after → Spaced ws used t a b d touch reason (number r') (value r') after' → (r ≡ r') × (after ≡ after')
spacing_once a b d touch reason r r' p q = macro_once r r' p q
