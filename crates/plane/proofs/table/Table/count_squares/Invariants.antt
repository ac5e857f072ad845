use Prim.Native.Nat.{◌≤◌, ◌*◌}
use mathlib.Core.Path.{◌≡◌}
use Rattle.plane.specs.Area.{shared}
use Rattle.plane.specs.Picture.{sum_to}
use Rattle.plane.specs.Words.{tile_of}
use Rattle.plane.proofs.table.Table.count_squares.Given as goal

abbrev pub invariant-loop-i : goal.invariant-loop-i
invariant-loop-i l = (l.sum ≡ sum_to l.i (λ j. shared (tile_of l.self j) l.kind l.a)) × (l.sum ≤ 16777216 * l.i)
