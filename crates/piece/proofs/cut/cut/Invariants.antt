use Prim.Native.Nat.{◌-◌}
use Rattle.piece.proofs.Cuts.{CutTo}
use Rattle.piece.proofs.cut.cut.Given as goal

abbrev pub invariant-loop-y : goal.invariant-loop-y
invariant-loop-y l = CutTo l.table l.block.x l.block.y l.a l.i l.y l.initial.kinds l.kinds

abbrev pub decreases-loop-y : goal.decreases-loop-y
decreases-loop-y l = l.a.y2 - l.y
