-- `mark_edge`. No edge marks nothing; an edge marks what is deep behind it and, where its run turns, what is past its end.
use Rattle.edges.proofs.Marking.{deep_here, no_edge, straight, turned}
use Rattle.edges.proofs.edge.Picture.mark_edge.Goals as goal

pub returns-else-edge_at : goal.returns-else-edge_at
returns-else-edge_at c = no_edge _ _ _ _ c.edge_at.ensures c.if-edge_at.false

pub returns-else-turns_at : goal.returns-else-turns_at
returns-else-turns_at c = straight _ _ _ _ c.edge_at.ensures c.if-edge_at.true c.turns_at.ensures c.if-turns_at.false (deep_here _ _ _ _ _ _ _ _ c.mark_deep.ensures)

pub returns-then-turns_at : goal.returns-then-turns_at
returns-then-turns_at c = turned _ _ _ _ c.edge_at.ensures c.if-edge_at.true c.turns_at.ensures c.if-turns_at.true (deep_here _ _ _ _ _ _ _ _ c.mark_deep.ensures) c.mark_past.ensures
