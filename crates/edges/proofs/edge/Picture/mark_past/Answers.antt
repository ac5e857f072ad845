-- `mark_past`. Each turn marks the squares one step further to the side.
use Rattle.edges.proofs.Marking.{past_start, past_more}
use Rattle.edges.proofs.edge.Picture.mark_past.Goals as goal

pub loop-j-init : goal.loop-j-init
loop-j-init c = past_start _ _ _ _

pub loop-j-preserved : goal.loop-j-preserved
loop-j-preserved c = past_more _ _ _ _ c.loop-j.j c.loop-j.invariant c.mark_deep.ensures
