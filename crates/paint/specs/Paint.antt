-- What blank, paint and stamp promise: their numbers, and the table and the working room that they leave.
use Rattle.std.specs.Prelude.{ℕ, ◌<◌, ◌≡◌, List, [], ◌∷◌, length, replicate}
use Rattle.plane.specs.declared.tile.Area.{Area}
use Rattle.plane.specs.Picture.{table, space}
use Rattle.plane.specs.Words.{width, height, kinds, room_in, InRange, TableLength, PictureTable}
use Rattle.plane.specs.Area.{AreaIn}
use Rattle.plane.specs.Refusal.{◌unless◌, Outcome}
use Rattle.brush.specs.Brush.{Small}
use Rattle.tables.specs.Like.{table_like, HasRoom, painted_of, stamped_of}

-- a table's length, and a working room as long
pub record PaintLengths (ws work : List ℕ) : Type 0 where
  pub table : TableLength (length ws)
  pub working : length work ≡ length ws

-- a stamp's area: in a window w by h, and at most 48 by 48
pub record StampIn (w h : ℕ) (a : Area) : Type 0 where
  pub area : AreaIn w h a
  pub small : Small a

-- ---- blank

-- when blank says no
abbrev pub blank_refusals : List ℕ → ℕ → ℕ → ℕ → List (ℕ × Type 0)
blank_refusals ws w h k =
    1 unless TableLength (length ws)
    ∷ 2 unless InRange w h k
    ∷ []

-- blank on the words ws: its number, and the words afterwards
pub record Blanked (ws : List ℕ) (w h k answer : ℕ) (after : List ℕ) : Type 0 where
  pub outcome : Outcome (blank_refusals ws w h k) ws (table (room_in (length ws)) w h k space) answer after

-- ---- paint

-- when paint says no
abbrev pub paint_refusals : List ℕ → Area → ℕ → List ℕ → List (ℕ × Type 0)
paint_refusals ws a k work =
    1 unless PaintLengths ws work
    ∷ 3 unless PictureTable ws
    ∷ 5 unless (k < kinds ws)
    ∷ 6 unless AreaIn (width ws) (height ws) a
    ∷ 7 unless HasRoom ws (painted_of ws a k)
    ∷ []

-- paint on the words ws and the working room: its number, and both afterwards
pub record PlanePainted (ws : List ℕ) (a : Area) (k : ℕ) (work : List ℕ) (answer : ℕ) (after work_after : List ℕ) : Type 0 where
  pub outcome : Outcome (paint_refusals ws a k work) ws (table_like ws (painted_of ws a k)) answer after
  pub zero : work_after ≡ replicate (length work) 0

-- ---- stamp

-- when stamp says no
abbrev pub stamp_refusals : List ℕ → Area → List ℕ → List ℕ → List (ℕ × Type 0)
stamp_refusals ws a rows work =
    1 unless PaintLengths ws work
    ∷ 3 unless PictureTable ws
    ∷ 6 unless StampIn (width ws) (height ws) a
    ∷ 7 unless HasRoom ws (stamped_of ws a rows)
    ∷ []

-- stamp on the words ws and the working room: its number, and both afterwards
pub record PlaneStamped (ws : List ℕ) (a : Area) (rows work : List ℕ) (answer : ℕ) (after work_after : List ℕ) : Type 0 where
  pub outcome : Outcome (stamp_refusals ws a rows work) ws (table_like ws (stamped_of ws a rows)) answer after
  pub zero : work_after ≡ replicate (length work) 0
