-- `bits_of`. Each turn stores one row more.
use Rattle.piece.proofs.Bits.{rows_start}
use Rattle.piece.proofs.rows.bits_of.Goals as goal

pub loop-i-init : goal.loop-i-init
loop-i-init c = rows_start
