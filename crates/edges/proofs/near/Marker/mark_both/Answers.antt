-- `Marker::mark_both`. The edge to the left, and then the one below.
use Rattle.edges.specs.Near.{edges_at}
use Rattle.edges.proofs.Marking.{and_then}
use Rattle.edges.proofs.near.Marker.mark_both.Goals as goal

pub returns : goal.returns
unfolding edges_at
returns c = and_then c.mark_side.ensures c.mark_side-2.ensures
