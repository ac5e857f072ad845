-- What the inner functions of check promise one another; no reader of its promise needs it.
use Rattle.std.specs.Prelude.{ℕ, cond, ◌≡◌, List, eqb, length, replicate}
use Rattle.plane.specs.Refusal.{Lowest}
use Rattle.plane.specs.Words.{kinds}
use Rattle.rules.specs.Vetting.{lowest_bad}
use Rattle.rules.specs.Words.{rules_of, halo_of}
use Rattle.sweep.specs.declared.sweep.Ran.{Ran}
use Rattle.sweep.specs.Run.{check_run, ran_check}
use Rattle.checker.specs.Check.{check_refusals, Checked}
use Rattle.sheet.specs.Layout.{Layout}
use Rattle.sheet.specs.Ready.{Fit}

-- a layout and rules that passed their test, and a working room as long
pub record Runs (l : Layout) (work rules : List ℕ) (used : ℕ) : Type 0 where
  pub fit : Fit l rules used
  pub working : length work ≡ length l.material

-- n turns
pub record RanTo (l : Layout) (rules : List ℕ) (used n : ℕ) (r : Ran) (after : Layout) : Type 0 where
  pub run : check_run n (rules_of rules used) (halo_of rules used) l ≡ record { number = cond r.full 7 0; done = r.done; layout = after }
  pub fit : Fit after rules used

-- the same with the pieces left; it answers no 4
pub record RanPieces (l : Layout) (rules : List ℕ) (used n : ℕ) (answer place done left : ℕ) (after : Layout) : Type 0 where
  pub leaves : record { number = answer; done = done; left = left; layout = after } ≡ ran_check (check_run n (rules_of rules used) (halo_of rules used) l)
  pub lowest : place ≡ cond (eqb answer 4) (lowest_bad rules used (kinds l.material)) 0

-- the tests: their number, and with 4 the lowest bad rule's place
pub record CheckTested (l : Layout) (work rules : List ℕ) (used : ℕ) (answer place : ℕ) : Type 0 where
  pub number : Lowest (check_refusals l work rules used) answer
  pub lowest : place ≡ cond (eqb answer 4) (lowest_bad rules used (kinds l.material)) 0

-- check, but for the working room
abbrev pub CheckedBut : Layout → List ℕ → List ℕ → ℕ → ℕ → ℕ → ℕ → ℕ → ℕ → Layout → Type 0
CheckedBut before work rules used n answer place done left after = (zeros : List ℕ) → zeros ≡ replicate (length work) 0 → Checked before work rules used n answer place done left after zeros
