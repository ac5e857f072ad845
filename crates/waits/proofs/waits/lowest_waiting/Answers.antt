-- `lowest_waiting`. The least key is the lowest piece, or no tile waits.
use Rattle.waits.proofs.Waited.{least_block, least_nothing}
use Rattle.waits.proofs.waits.lowest_waiting.Goals as goal

pub returns-in_err-key : goal.returns-in_err-key
returns-in_err-key c = rw c.from_residual.ensures (least_nothing c.args.t.now c.requires (rw c.of.ensures at c.in_err-key.ensures))

pub returns : goal.returns
returns c = least_block c.args.t.now c.requires c.in_ok-key.key (rw c.of.ensures at c.in_ok-key.ensures)
