-- What a brush of one type answers.
use Rattle.paint.proofs.Brushes.{brushed_flat}
use Rattle.paint.proofs.paint.paint.Goals as goal

pub returns : goal.returns
returns c = brushed_flat c.brush_clear.ensures
