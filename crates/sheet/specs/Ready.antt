-- The test of a layout with its rules, which check and report begin with.
use Rattle.std.specs.Prelude.{ℕ, cond, ◌≡◌, List, [], ◌∷◌, eqb}
use Rattle.plane.specs.Refusal.{◌unless◌, Lowest}
use Rattle.plane.specs.Words.{kinds}
use Rattle.rules.specs.Vetting.{AllSound, lowest_bad}
use Rattle.sheet.specs.Layout.{Layout, RuleLength, IsLayout}

-- when the test says no
abbrev pub ready_refusals : Layout → List ℕ → ℕ → List (ℕ × Type 0)
ready_refusals l rules used =
    1 unless RuleLength l rules used
    ∷ 3 unless IsLayout l
    ∷ 4 unless AllSound rules used (kinds l.material)
    ∷ []

-- the test: its number, and with 4 the lowest bad rule's place
pub record Readied (l : Layout) (rules : List ℕ) (used : ℕ) (answer place : ℕ) : Type 0 where
  pub number : Lowest (ready_refusals l rules used) answer
  pub lowest : place ≡ cond (eqb answer 4) (lowest_bad rules used (kinds l.material)) 0

-- a layout and rules that passed it
pub record Fit (l : Layout) (rules : List ℕ) (used : ℕ) : Type 0 where
  pub lengths : RuleLength l rules used
  pub tables : IsLayout l
  pub sound : AllSound rules used (kinds l.material)
