-- `Marker::mark_rows`. Each turn adds one row more.
use Rattle.edges.proofs.Edges.{rows_start, rows_more}
use Rattle.edges.proofs.near.Marker.mark_rows.Goals as goal

pub loop-j-init : goal.loop-j-init
loop-j-init c = rows_start _ _ _ _ _

pub loop-j-preserved : goal.loop-j-preserved
loop-j-preserved c = rows_more _ _ _ _ _ c.loop-j.j c.loop-j.invariant c.mark_range.ensures
