use Rattle.piece.proofs.Bits.{RowFrom}
use Rattle.piece.proofs.rows.row_bits.Given as goal

abbrev pub invariant-loop-j : goal.invariant-loop-j
invariant-loop-j l = RowFrom l.marks l.at l.n l.j l.row
