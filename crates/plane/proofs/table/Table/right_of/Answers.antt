-- `Table::right_of` meets its contract: from tr on, each tile that lb names begins where tile i ends (`OnRight`).
use native.Mathlib.Omega.{arith}
use Rattle.plane.proofs.Walks.{right_first, right_next}
use Rattle.plane.proofs.table.Table.right_of.Goals as goal

pub loop-k-init : goal.loop-k-init
loop-k-init c = right_first c.tr-k.ensures.plane c.requires.on_row c.requires.i_bound c.tr-k.ensures.value

pub loop-k-preserved : goal.loop-k-preserved
loop-k-preserved c = (right_next c.tr-k.ensures.plane c.requires.on_row c.loop-k.invariant (omega arith) c.lb-k.ensures.value).0
