-- What the test of a table answers.
use Rattle.std.specs.Prelude.{ℕ, List, [], ◌∷◌, length}
use Rattle.plane.specs.Point.{TableOf}
use Rattle.plane.specs.Refusal.{◌unless◌, Lowest}
use Rattle.plane.specs.Words.{TableLength, PictureTable}

-- when a test of one table says no
abbrev pub vet_refusals : List ℕ → List (ℕ × Type 0)
vet_refusals ws =
    1 unless TableLength (length ws)
    ∷ 3 unless PictureTable ws
    ∷ []

-- the test of one table
pub record Vetted (ws : List ℕ) (answer : ℕ) : Type 0 where
  pub number : Lowest (vet_refusals ws) answer

-- when a test of a table and its size says no
abbrev pub sized_refusals : List ℕ → ℕ → ℕ → List (ℕ × Type 0)
sized_refusals ws w h =
    1 unless TableLength (length ws)
    ∷ 3 unless TableOf w h ws
    ∷ []

-- the test of a table and its size
pub record SizedRight (ws : List ℕ) (w h answer : ℕ) : Type 0 where
  pub number : Lowest (sized_refusals ws w h) answer
