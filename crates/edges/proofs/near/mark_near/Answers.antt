-- `mark_near`. Outside the columns and rows there is no edge, so theirs are all of the sweeps.
use native.Mathlib.Omega.{arith}
use Rattle.edges.proofs.Edges.{swept_all}
use Rattle.edges.proofs.near.mark_near.Goals as goal

pub returns : goal.returns
returns c = swept_all _ _ _ _ _ c.requires.1 c.requires.2 (omega arith) (rw c.of.ensures at c.mark_rows.ensures)
