-- `say`. All of the bytes are handed to the writer.
use Rattle.session.proofs.Wires.{says}
use Rattle.session.proofs.wire.Wire.say.Goals as goal

pub returns-clause-says : goal.returns-clause-says
returns-clause-says g c = says c.args.self.now c.args.bytes.now c.is_ok-written.result
