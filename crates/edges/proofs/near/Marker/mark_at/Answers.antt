-- `Marker::mark_at`. Amid one type there is no edge.
use Rattle.edges.proofs.Edges.{no_edges}
use Rattle.edges.proofs.near.Marker.mark_at.Goals as goal

pub returns-else-kind-2 : goal.returns-else-kind-2
returns-else-kind-2 c =
    rw (← c.self.view_is) (no_edges _ _ _ _ c.requires.0 c.self.invariant.0 c.kind-kind.ensures.value c.kind.ensures.value c.kind-else-kind.ensures.value c.if-kind.false c.if-kind-2.false)
