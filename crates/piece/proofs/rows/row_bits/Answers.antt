-- `row_bits`. From the last mark down, each turn puts one bit more below; 48 bits fit.
use Rattle.piece.proofs.Bits.{from_more}
use native.Mathlib.Omega.{arith}
use Rattle.piece.proofs.rows.row_bits.Goals as goal

pub loop-j-preserved : goal.loop-j-preserved
loop-j-preserved c = from_more (omega arith) (omega arith) c.loop-j.invariant c.from.ensures (omega arith)
