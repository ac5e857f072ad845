-- What the steps of paint and stamp promise, for any brush: no reader of their promises needs it.
use Rattle.std.specs.Prelude.{ℕ, ◌≡◌, List, [], ◌∷◌, ◌++◌, length, replicate}
use Rattle.plane.specs.Refusal.{◌unless◌, Lowest, Outcome}
use Rattle.plane.specs.Words.{width, height, kinds, PictureTable}
use Rattle.brush.specs.declared.brush.Brush.{Brush}
use Rattle.brush.specs.Brush.{BrushIn, KindsBelow, goal}
use Rattle.tables.specs.Like.{table_like, HasRoom}
use Rattle.paint.specs.Paint.{PaintLengths}

-- what speaks against a brush, but for want of room
abbrev pub brush_tests : List ℕ → Brush → List ℕ → List (ℕ × Type 0)
brush_tests ws b work =
    1 unless PaintLengths ws work
    ∷ 3 unless PictureTable ws
    ∷ 5 unless KindsBelow b.ink (kinds ws)
    ∷ 6 unless BrushIn (width ws) (height ws) b
    ∷ []

-- the tests of a brush
pub record Tested (ws : List ℕ) (b : Brush) (work : List ℕ) (answer : ℕ) : Type 0 where
  pub number : Lowest (brush_tests ws b work) answer

-- want of room
abbrev pub brush_room : List ℕ → Brush → List (ℕ × Type 0)
brush_room ws b = 7 unless HasRoom ws (goal ws b) ∷ []

-- a brush on the words ws: its number, and the words afterwards
pub record Brushed (ws : List ℕ) (b : Brush) (work : List ℕ) (answer : ℕ) (after : List ℕ) : Type 0 where
  pub outcome : Outcome (brush_tests ws b work ++ brush_room ws b) ws (table_like ws (goal ws b)) answer after

-- the same, and the working room afterwards
pub record BrushedZero (ws : List ℕ) (b : Brush) (work : List ℕ) (answer : ℕ) (after work_after : List ℕ) : Type 0 where
  pub brushed : Brushed ws b work answer after
  pub zero : work_after ≡ replicate (length work) 0
