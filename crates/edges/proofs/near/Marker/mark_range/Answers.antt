-- `Marker::mark_range`. Each turn adds one index more.
use Rattle.edges.proofs.Edges.{edges_start, edges_more}
use Rattle.edges.proofs.near.Marker.mark_range.Goals as goal

pub loop-k-init : goal.loop-k-init
loop-k-init c = edges_start _ _ _ _

pub loop-k-preserved : goal.loop-k-preserved
loop-k-preserved c = edges_more _ _ _ _ c.loop-k.k c.loop-k.invariant c.mark_at.ensures
