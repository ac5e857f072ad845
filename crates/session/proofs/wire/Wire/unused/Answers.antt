-- `unused`. Its counts are those of the empty log.
use Rattle.std.proofs.Common.{refl}
use Rattle.session.specs.Wire.{carried_none}
use Rattle.session.proofs.wire.Wire.unused.Goals as goal

pub returns-clause-carried : goal.returns-clause-carried
returns-clause-carried c = carried_none refl refl
