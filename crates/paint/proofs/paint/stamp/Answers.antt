-- What a brush of bits answers.
use Rattle.paint.proofs.Brushes.{brushed_bits}
use Rattle.paint.proofs.paint.stamp.Goals as goal

pub returns : goal.returns
returns c = brushed_bits c.brush_clear.ensures
