-- `least_key`. Each turn passes a tile that does not wait, or takes its key: the first one, or the smaller of it and the least so far.
use Rattle.waits.proofs.Waited.{key_small, least_idle, least_first, least_more}
use Rattle.waits.proofs.waits.least_key.Goals.{then-a-ne0+in-Some, then-a-ne0+in-None, else-a-ne0}
use native.Mathlib.Omega.{arith}
use Rattle.waits.proofs.waits.least_key.Goals as goal

pub loop-i-preserved : goal.loop-i-preserved
loop-i-preserved c = elim c.if-a-ne0.branch [
  | then-a-ne0+in-Some w ↦ rw (w.least-is, w.min.ensures) (least_more c.tile-a.ensures.value (rw w.in-Some.is at c.loop-i.invariant) w.if-a-ne0.true w.key_of-key.ensures)
  | then-a-ne0+in-None w ↦ rw w.least-is (least_first (key_small c.tile-a.ensures.plane (omega arith) c.tile-a.ensures.value w.key_of-key.ensures) c.tile-a.ensures.value (rw w.in-None.is at c.loop-i.invariant) w.if-a-ne0.true w.key_of-key.ensures)
  | else-a-ne0 w ↦ rw w.least-is (least_idle c.args.t.now c.loop-i.i c.loop-i.least c.tile-a.ensures.value c.loop-i.invariant w.if-a-ne0.false)
]
