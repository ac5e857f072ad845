-- What check promises: it does the lowest waiting piece, as often as it is told or until none waits.
use Rattle.std.specs.Prelude.{ℕ, cond, ◌≡◌, List, [], ◌∷◌, length, replicate, eqb}
use Rattle.plane.specs.Refusal.{◌unless◌, Lowest, if_done}
use Rattle.plane.specs.Words.{kinds}
use Rattle.rules.specs.Vetting.{ListLength, AllSound, lowest_bad}
use Rattle.rules.specs.Words.{rules_of, halo_of}
use Rattle.sweep.specs.Run.{CheckLeft, check_run, ran_check}
use Rattle.sheet.specs.Layout.{Layout, WorkLength, IsLayout}

-- refused by a test: all other numbers are 0, and the layout stays
abbrev pub refused_check : ℕ → Layout → CheckLeft
refused_check n l = record { number = n; done = 0; left = 0; layout = l }

-- the lengths of the tables, of the working room and of the rule list
pub record CheckLength (l : Layout) (work rules : List ℕ) (used : ℕ) : Type 0 where
  pub tables : WorkLength l work
  pub list : ListLength (length rules) used

-- when check says no before it does a piece
abbrev pub check_refusals : Layout → List ℕ → List ℕ → ℕ → List (ℕ × Type 0)
check_refusals l work rules used =
    1 unless CheckLength l work rules used
    ∷ 3 unless IsLayout l
    ∷ 4 unless AllSound rules used (kinds l.material)
    ∷ []

-- check n: the number of its tests, what it answers and leaves, with 4 the lowest bad rule's place, and the working room
pub record Checked (before : Layout) (work rules : List ℕ) (used n : ℕ) (answer place done left : ℕ) (after : Layout) (work_after : List ℕ) : Type 0 where
  pub tested : ℕ
  pub number : Lowest (check_refusals before work rules used) tested
  pub leaves : record { number = answer; done = done; left = left; layout = after } ≡ if_done tested (ran_check (check_run n (rules_of rules used) (halo_of rules used) before)) (refused_check tested before)
  pub lowest : place ≡ cond (eqb answer 4) (lowest_bad rules used (kinds before.material)) 0
  pub zero : work_after ≡ replicate (length work) 0
