use Prim.Native.Nat.{◌<◌}
use Rattle.plane.specs.Words.{word}
use Rattle.plane.specs.Point.{OnRow}
use Rattle.plane.proofs.table.Table.leftward.Given as goal

abbrev pub invariant-loop-k : goal.invariant-loop-k
invariant-loop-k l = OnRow l.self l.k l.y × (l.x < word l.self l.k 2)

abbrev pub decreases-loop-k : goal.decreases-loop-k
decreases-loop-k l = word l.self l.k 0
