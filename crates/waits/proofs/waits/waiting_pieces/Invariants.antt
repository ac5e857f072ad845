use Rattle.waits.proofs.Waited.{row_waiting}
use Rattle.plane.specs.Picture.{sum_to}
use Rattle.plane.specs.Words.{width, height, picture_of}
use mathlib.Core.Path.{◌≡◌}
use Prim.Native.Nat.{◌*◌, ◌≤◌}
use Rattle.waits.proofs.waits.waiting_pieces.Given as goal

abbrev pub invariant-loop-y : goal.invariant-loop-y
invariant-loop-y l = (l.sum ≤ 256 * l.y) × (l.sum ≡ sum_to l.y (row_waiting (width l.t) (height l.t) (picture_of l.t)))
