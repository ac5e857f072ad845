use Prim.Native.Nat.{◌-◌}
use Rattle.plane.specs.Words.{word}
use Rattle.plane.proofs.Walks.{OnLeft}
use Rattle.plane.proofs.table.Table.left_of.Given as goal

abbrev pub invariant-loop-k : goal.invariant-loop-k
invariant-loop-k l = OnLeft l.self l.i l.y l.k

abbrev pub decreases-loop-k : goal.decreases-loop-k
decreases-loop-k l = word l.self l.i 3 - word l.self l.k 3
