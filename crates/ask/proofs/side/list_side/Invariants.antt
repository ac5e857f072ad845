-- The numbers before square j are listed, and a new run begins there (`Along`). The measure is what is left of the side.
use Prim.Native.Nat.{◌-◌}
use Rattle.plane.specs.Sides.{side_number}
use Rattle.ask.proofs.Alongs.{Along}
use Rattle.ask.proofs.side.list_side.Given as goal

abbrev pub invariant-loop-j : goal.invariant-loop-j
invariant-loop-j l = Along l.table l.i (side_number l.fn.side) l.most l.initial.out l.out l.j l.k l.m

abbrev pub decreases-loop-j : goal.decreases-loop-j
decreases-loop-j l = l.n - l.j
