use Rattle.lines.proofs.Feeds.{Going}
use Rattle.lines.proofs.state.State.feed.Given as goal

abbrev pub invariant-loop-b : goal.invariant-loop-b
invariant-loop-b l = Going l.chunk l.fn.self l.initial.out l.self l.out l.b-index
