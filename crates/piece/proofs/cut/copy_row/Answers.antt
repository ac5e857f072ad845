-- `copy_row`. A copy within the picture draws the row.
use Rattle.piece.proofs.Drawings.{drawn_copy}
use Rattle.piece.proofs.cut.copy_row.Goals as goal

pub returns : goal.returns
returns c = drawn_copy _ _ _ _ c.requires.2 c.requires.3 c.copy_within.ensures.len c.copy_within.ensures.by_index
