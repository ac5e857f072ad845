-- Each call has one outcome: two that meet its statement have the same answer and leave the same words.
use Prim.Native.Nat.{ℕ}
use mathlib.Core.Path.{◌≡◌, sym, ◌∙◌}
use mathlib.Core.List.{List}
use Rattle.std.specs.Prelude.{Result}
use Rattle.plane.specs.declared.answer.Refusal.{Refusal}
use Rattle.plane.specs.declared.tile.Area.{Area}
use Rattle.plane.specs.Answers.{number}
use Rattle.plane.specs.Refusal.{outcome_once}
use Rattle.paint.specs.Paint.{Blanked, PlanePainted, PlaneStamped}
use Rattle.plane.proofs.Once.{number_once}

pub blank_once : {ws vs vs' : List ℕ} {w h k : ℕ} (r r' : Result (Unit {0}) Refusal) → Blanked ws w h k (number r) vs → Blanked ws w h k (number r') vs' → (r ≡ r') × (vs ≡ vs')
blank_once r r' p q =
    let e = outcome_once p.outcome q.outcome in
    (number_once r r' e.0, e.1)

pub paint_once : {ws vs vs' work left left' : List ℕ} {a : Area} {k : ℕ} (r r' : Result (Unit {0}) Refusal)
    → PlanePainted ws a k work (number r) vs left → PlanePainted ws a k work (number r') vs' left' → (r ≡ r') × (vs ≡ vs') × (left ≡ left')
paint_once r r' p q =
    let e = outcome_once p.outcome q.outcome in
    (number_once r r' e.0, e.1, p.zero ∙ sym q.zero)

pub stamp_once : {ws vs vs' work left left' rows : List ℕ} {a : Area} (r r' : Result (Unit {0}) Refusal)
    → PlaneStamped ws a rows work (number r) vs left → PlaneStamped ws a rows work (number r') vs' left' → (r ≡ r') × (vs ≡ vs') × (left ≡ left')
stamp_once r r' p q =
    let e = outcome_once p.outcome q.outcome in
    (number_once r r' e.0, e.1, p.zero ∙ sym q.zero)
