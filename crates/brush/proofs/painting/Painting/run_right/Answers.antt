-- A rectangle of one type from row y up, grown to the right by the next piece while that is of its type.
use Rattle.brush.proofs.Spans.{right_on, right_stop}
use Rattle.brush.proofs.painting.Painting.run_right.Goals as goal

pub returns-then-u-r : goal.returns-then-u-r
returns-then-u-r c = right_stop c.loop-r.invariant.2 c.loop-r.invariant.3 c.min.ensures c.piece-u.ensures c.if-u-r.true

pub loop-r-preserved : goal.loop-r-preserved
loop-r-preserved c = (c.loop-r.invariant.0, c.seek-k-in-loop-r.ensures.names.counted, right_on c.loop-r.invariant.2 c.loop-r.invariant.3 c.min.ensures c.piece-u.ensures c.if-u-r.false, c.loop-r.invariant.3)
