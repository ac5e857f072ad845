use Rattle.piece.specs.Rows.{BitRows}
use Rattle.piece.proofs.rows.bits_of.Given as goal

abbrev pub invariant-loop-i : goal.invariant-loop-i
invariant-loop-i l = BitRows l.marks l.x0 l.y0 l.nx l.i l.rows
