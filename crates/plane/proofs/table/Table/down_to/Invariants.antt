use Prim.Native.Nat.{◌<◌}
use Rattle.plane.specs.Words.{count, word}
use Rattle.plane.proofs.table.Table.down_to.Given as goal

abbrev pub invariant-loop-k : goal.invariant-loop-k
invariant-loop-k l = (l.k < count l.self) × (l.y < word l.self l.k 3)

abbrev pub decreases-loop-k : goal.decreases-loop-k
decreases-loop-k l = word l.self l.k 1
