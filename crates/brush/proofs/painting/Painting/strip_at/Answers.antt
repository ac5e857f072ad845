-- A run that stays so up to its top, grown by the run above while that has its span and type.
use Rattle.brush.proofs.Spans.{up_on, up_stop, up_unlike}
use Rattle.brush.proofs.painting.Painting.strip_at.Goals as goal

pub returns-then-sticks_out : goal.returns-then-sticks_out
returns-then-sticks_out c = up_unlike c.loop-r.invariant.2 c.piece.ensures (rw c.if-sticks_out.true at c.sticks_out.ensures)

pub returns-then-not-same_span : goal.returns-then-not-same_span
returns-then-not-same_span c = up_stop c.loop-r.invariant.2 c.run_at-u.ensures (rw c.if-not-same_span.true at c.same_span.ensures)

pub loop-r-preserved : goal.loop-r-preserved
loop-r-preserved c = (c.loop-r.invariant.0, c.seek-k.ensures.names.counted, up_on c.loop-r.invariant.2 c.run_at-u.ensures (rw c.if-not-same_span.false at c.same_span.ensures))
