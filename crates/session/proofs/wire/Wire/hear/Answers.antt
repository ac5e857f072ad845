-- `hear`. As many bytes as the read counts stand at the start of the slice.
use Rattle.std.proofs.Common.{arith}
use Rattle.std.proofs.lemmas.Grind.{common_steps}
use Rattle.session.proofs.Wires.{hears}
use Rattle.session.proofs.wire.Wire.hear.Goals as goal

pub returns-clause-hears : goal.returns-clause-hears
returns-clause-hears g c = hears c.args.self.now c.unwrap_or-k.result c.read.new.buf (grind (arith, common_steps, c.read.ensures.bound))
