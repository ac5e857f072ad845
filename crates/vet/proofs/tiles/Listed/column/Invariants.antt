-- The left border is covered from the bottom up to `edge`.
use Rattle.vet.proofs.Checked.{Border}
use Rattle.vet.proofs.tiles.Listed.column.Given as goal

abbrev pub invariant-loop-i : goal.invariant-loop-i
invariant-loop-i l = Border l.self.words.now l.edge l.i
