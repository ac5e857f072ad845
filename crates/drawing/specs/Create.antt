-- What create promises.
use Rattle.std.specs.Prelude.{ℕ, List, [], ◌∷◌}
use Rattle.plane.specs.Picture.{table, space}
use Rattle.plane.specs.Refusal.{◌unless◌, Outcome}
use Rattle.plane.specs.Words.{InRange}
use Rattle.sheet.specs.Layout.{Layout, room, OneLength}

-- one tile of space in each table, with T and 2 and 2
abbrev pub fresh : ℕ → ℕ → ℕ → ℕ → Layout
fresh c w h t = record { material = table c w h t space; errors = table c w h 2 space; waiting = table c w h 2 space }

-- when create says no; what stands in the slices is not tested
abbrev pub create_refusals : Layout → ℕ → ℕ → ℕ → List (ℕ × Type 0)
create_refusals before w h t =
    1 unless OneLength before
    ∷ 2 unless InRange w h t
    ∷ []

-- create on the slices `before`: its number, and the slices afterwards
pub record Created (before : Layout) (w h t answer : ℕ) (after : Layout) : Type 0 where
  pub outcome : Outcome (create_refusals before w h t) before (fresh (room before) w h t) answer after
