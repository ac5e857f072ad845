use Prim.Native.Nat.{◌+◌}
use Rattle.plane.specs.Picture.{area}
use Rattle.piece.specs.Cut.{Drawn, row_of}
use Rattle.piece.proofs.cut.copy_up.Given as goal

abbrev pub invariant-loop-y : goal.invariant-loop-y
invariant-loop-y l = Drawn (row_of l.initial.kinds l.v) (area l.u1 (l.v + 1) l.u2 l.y) l.initial.kinds l.kinds
