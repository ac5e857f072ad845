-- Each public call has one outcome: two that meet its statement have the same answer and leave the same words. An answer is known by its numbers.
use Prim.Native.Nat.{ℕ, zero, suc}
use mathlib.Core.Bool.{cond}
use mathlib.Core.List.{List}
use mathlib.Core.Path.{◌≡◌, refl, sym, ◌∙◌, ap, ap₂}
use lib.Dec.{eqb}
use Rattle.std.specs.Prelude.{Result, Ok, Err}
use Rattle.plane.specs.Refusal.{lowest_once, outcome_once}
use Rattle.plane.specs.declared.answer.Refusal.{Refusal}
use Rattle.plane.specs.Answers.{number, value}
use Rattle.plane.proofs.Once.{value_once}
use Rattle.rules.specs.declared.list.ListError.{ListError}
use Rattle.rules.specs.declared.list.ListError.TheVariants.{Lengths, Sizes, BadRule}
use Rattle.rules.specs.Answers.{list_number, list_place}
use Rattle.rules.specs.Vetting.{list_refusals, lowest_bad, ListVetted, HaloFound}

-- ---- an answer is known by its numbers
list_of : ℕ → ℕ → Result (Unit {0}) ListError
list_of zero i = Ok tt
list_of (suc zero) i = Err Lengths
list_of (suc (suc zero)) i = Err Sizes
list_of (suc (suc (suc n))) i = Err (BadRule i)

list_known : (a : Result (Unit {0}) ListError) → list_of (list_number a) (list_place a) ≡ a
unfolding list_of
list_known (Ok x) = refl
list_known (Err Lengths) = refl
list_known (Err Sizes) = refl
list_known (Err (BadRule i)) = refl

-- ---- the calls
pub vet_list_once : {ws : List ℕ} {used t : ℕ} (r r' : Result (Unit {0}) ListError) → ListVetted ws used t (list_number r) (list_place r) → ListVetted ws used t (list_number r') (list_place r') → r ≡ r'
vet_list_once {ws} {used} {t} r r' p q =
    let e = lowest_once (list_refusals ws used t) p.number q.number in
    let f = p.lowest ∙ (ap (λ (n : ℕ). cond (eqb n 4) (lowest_bad ws used t) 0) e ∙ sym q.lowest) in
    sym (list_known r) ∙ (ap₂ list_of e f ∙ list_known r')

pub halo_once : {ws : List ℕ} {used : ℕ} (r r' : Result ℕ Refusal) → HaloFound ws used (number r) (value r) → HaloFound ws used (number r') (value r') → r ≡ r'
halo_once r r' p q = let e = outcome_once p.outcome q.outcome in value_once r r' e.0 e.1
