-- The equal bits around the place, by `bits_around`.
use Rattle.brush.proofs.Bits.{bits_around}
use Rattle.brush.proofs.brush.same_bits.Goals as goal

pub returns : goal.returns
returns c = bits_around c.other_bits-other.ensures c.requires.0 c.requires.1 c.from.ensures c.from-2.ensures c.min.ensures
