use Rattle.plane.specs.Words.{word}
use Rattle.plane.proofs.Walks.{OnRight}
use Rattle.plane.proofs.table.Table.right_of.Given as goal

abbrev pub invariant-loop-k : goal.invariant-loop-k
invariant-loop-k l = OnRight l.self l.i l.y l.k

abbrev pub decreases-loop-k : goal.decreases-loop-k
decreases-loop-k l = word l.self l.k 1
