-- `shows_rows`. Each turn, a row and those above it that are the same are shown.
use Rattle.piece.specs.Shown.{ShowsRows}
use Rattle.plane.specs.Words.{count, picture_of}
use Rattle.plane.specs.Picture.{area}
use Prim.Native.Nat.{◌-◌, ◌≤◌, ◌<◌}
use Rattle.piece.proofs.shown.shows_rows.Given as goal

abbrev pub invariant-loop-y : goal.invariant-loop-y
invariant-loop-y l = (l.i < count l.table) × (l.a.y1 ≤ l.y) × (l.y ≤ l.a.y2) × ShowsRows (picture_of l.table) (area l.a.x1 l.a.y1 l.a.x2 l.y) l.rows

abbrev pub decreases-loop-y : goal.decreases-loop-y
decreases-loop-y l = l.a.y2 - l.y
