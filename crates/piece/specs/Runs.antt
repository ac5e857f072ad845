-- A row of a window, as one tile after another holds it.
use Rattle.std.specs.Prelude.{ℕ, ◌<◌, ◌≤◌, min, List, ◌≡◌, Option, Some, None}
use Rattle.plane.specs.Plane.{Plane, Names}
use Rattle.plane.specs.Words.{word}
use Rattle.piece.specs.declared.run.Run.{Run}
use Rattle.piece.specs.declared.run.Runs.{Runs}

-- a tile of the plane holds the square (x,y); the run is what it holds of row y from there on, up to `end` at the most
pub record RunAt (ws : List ℕ) (x y end : ℕ) (r : Run) : Type 0 where
  pub plane : Plane ws
  pub tile : ℕ
  pub names : Names ws tile x y
  pub start : r.start ≡ x
  pub kind : r.kind ≡ word ws tile 4
  pub right : r.end ≡ min (word ws tile 2) end
  pub top : r.top ≡ word ws tile 3
  pub some : x < r.end
  pub most : r.end ≤ end

-- the next of the runs that are left, and what is left then; none where the row is at its end
abbrev pub NextRun : Runs → Option Run → Runs → Type 0
NextRun s None t = s.end ≤ s.x
NextRun s (Some r) t = RunAt s.table.now s.x s.y s.end r × (t.table.now ≡ s.table.now) × (t.x ≡ r.end) × (t.y ≡ s.y) × (t.end ≡ s.end)

-- the runs are those that are left of row y of a plane, past what begins at column x1
pub record RowLeft (ws : List ℕ) (x1 y x2 : ℕ) (s : Runs) : Type 0 where
  pub words : s.table.now ≡ ws
  pub row : s.y ≡ y
  pub last : s.end ≡ x2
  pub from : x1 ≤ s.x
  pub to : s.x ≤ x2
