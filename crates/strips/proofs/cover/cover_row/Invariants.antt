use Prim.Native.Nat.{◌-◌, ◌<◌}
use mathlib.Core.Path.{◌≡◌}
use lib.ListN.{length}
use Rattle.plane.specs.Words.{count, height, width}
use Rattle.brush.specs.Brush.{goal}
use Rattle.strips.proofs.Covers.{RowSoFar}
use Rattle.strips.proofs.cover.cover_row.Given as goal

abbrev pub invariant-loop-r : goal.invariant-loop-r
invariant-loop-r l = (length l.work ≡ length l.initial.work) × (l.r.near < count l.p.words) × RowSoFar (width l.p.words) (height l.p.words) (goal l.p.words l.p.brush) l.room l.initial.work l.fn.from.count l.fn.from.right l.y l.work l.r

abbrev pub decreases-loop-r : goal.decreases-loop-r
decreases-loop-r l = l.e - l.r.right
