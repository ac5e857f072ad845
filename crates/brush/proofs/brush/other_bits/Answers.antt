-- The complement, by `other_not`.
use mathlib.Core.Path.{◌∙◌}
use Rattle.brush.proofs.Bits.{other_not}
use Rattle.brush.proofs.brush.other_bits.Goals as goal

pub returns-else-bit_at-eq0 : goal.returns-else-bit_at-eq0
returns-else-bit_at-eq0 c = other_not c.ranges.word.fits c.requires (λ e. c.if-bit_at-eq0.false (c.bit_at.ensures ∙ e))
