use Prim.Native.Nat.{◌-◌, ◌≤◌, ◌<◌}
use Rattle.plane.specs.Words.{count, height, word}
use Rattle.plane.proofs.table.Table.up_to.Given as goal

abbrev pub invariant-loop-k : goal.invariant-loop-k
invariant-loop-k l = (l.k < count l.self) × (word l.self l.k 1 ≤ l.y)

abbrev pub decreases-loop-k : goal.decreases-loop-k
decreases-loop-k l = height l.self - word l.self l.k 3
