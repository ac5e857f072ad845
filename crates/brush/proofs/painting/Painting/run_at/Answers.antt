-- The same to the left.
use native.Mathlib.Omega.{arith}
use Rattle.brush.proofs.Spans.{left_again}
use Rattle.brush.proofs.painting.Painting.run_at.Goals as goal

pub loop-r-preserved : goal.loop-r-preserved
loop-r-preserved c = (c.seek-k.ensures.names.counted, left_again c.loop-r.invariant.1 c.min.ensures (omega arith) c.piece-u.ensures c.if-u-r.false)
