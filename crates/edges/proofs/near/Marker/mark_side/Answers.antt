-- `Marker::mark_side`. Where the two squares are of one type, no rule has an edge.
use Rattle.edges.proofs.Edges.{one_type}
use Rattle.edges.proofs.near.Marker.mark_side.Goals as goal

pub returns-else-a-b : goal.returns-else-a-b
returns-else-a-b c = rw (← c.self.view_is) (one_type _ _ _ _ _ c.args.s.steps c.args.s.low c.self.invariant.0 c.requires c.kind-a.ensures.value c.kind-b.ensures.value c.if-a-b.false)
