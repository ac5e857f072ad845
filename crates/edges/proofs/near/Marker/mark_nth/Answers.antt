-- `Marker::mark_nth`. A rule without its types at the edge marks nothing there.
use Rattle.edges.proofs.Edges.{other_pair}
use Rattle.edges.proofs.near.Marker.mark_nth.Goals as goal

pub returns-else-faces : goal.returns-else-faces
returns-else-faces c = rw (← c.self.view_is) (other_pair _ _ _ _ c.args.s.steps c.args.s.low (rw (← c.self.view_is) at c.requires.between) c.faces.ensures c.if-faces.false)
