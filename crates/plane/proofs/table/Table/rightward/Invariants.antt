use Prim.Native.Nat.{◌-◌, ◌≤◌}
use Rattle.plane.specs.Words.{width, word}
use Rattle.plane.specs.Point.{OnRow}
use Rattle.plane.proofs.table.Table.rightward.Given as goal

abbrev pub invariant-loop-k : goal.invariant-loop-k
invariant-loop-k l = OnRow l.self l.k l.y × (word l.self l.k 0 ≤ l.x)

abbrev pub decreases-loop-k : goal.decreases-loop-k
decreases-loop-k l = width l.self - word l.self l.k 2
