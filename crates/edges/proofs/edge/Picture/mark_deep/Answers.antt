-- `mark_deep`. Each turn marks one square more.
use Rattle.edges.proofs.Marking.{deep_start, deep_more}
use Rattle.edges.proofs.edge.Picture.mark_deep.Goals as goal

pub loop-i-init : goal.loop-i-init
loop-i-init c = deep_start _ _ _ _ _ _

pub loop-i-preserved : goal.loop-i-preserved
loop-i-preserved c = deep_more _ _ _ _ _ _ _ c.loop-i.invariant c.mark_one.ensures
