-- `Table::left_of` meets its contract: from bl on, each tile that rt names ends where tile i begins (`OnLeft`).
use native.Mathlib.Omega.{arith}
use Rattle.plane.proofs.Walks.{left_first, left_next}
use Rattle.plane.proofs.table.Table.left_of.Goals as goal

pub loop-k-init : goal.loop-k-init
loop-k-init c = left_first c.bl-k.ensures.plane c.requires.on_row c.requires.nonzero c.bl-k.ensures.value

pub loop-k-preserved : goal.loop-k-preserved
loop-k-preserved c = (left_next c.bl-k.ensures.plane c.requires.on_row c.requires.nonzero c.loop-k.invariant (omega arith) c.rt-k.ensures.value).0
