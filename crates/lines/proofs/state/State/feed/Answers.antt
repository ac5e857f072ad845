-- `feed`. What the bytes so far have led to, byte by byte.
use Rattle.std.proofs.Common.{refl}
use Rattle.lines.proofs.Feeds.{going_start, going_on}
use Rattle.lines.proofs.state.State.feed.Goals as goal

pub loop-b-init : goal.loop-b-init
loop-b-init c = going_start refl

pub loop-b-preserved : goal.loop-b-preserved
loop-b-preserved c = going_on c.loop-b.invariant c.loop-b-test.true refl c.step.ensures
