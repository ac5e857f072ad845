-- The brush's one type, or a run of equal bits, by `ink_flat` and `ink_bits`.
use mathlib.Core.Path.{refl}
use Rattle.brush.proofs.Pieces.{ink_bits, ink_flat}
use Rattle.brush.proofs.brush.Brush.ink_tile.Goals as goal

pub returns-in-Flat : goal.returns-in-Flat
returns-in-Flat c = rw c.brush_tile.ensures (ink_flat c.in-Flat.is c.requires.inside)

pub returns-in-Bits : goal.returns-in-Bits
returns-in-Bits c = let e = c.same_bits-left.ensures in rw c.bit_at.ensures (ink_bits c.in-Bits.is c.requires.inside c.from.ensures refl e.0 e.1 e.2 e.3)
