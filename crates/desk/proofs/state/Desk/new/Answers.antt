-- `new`. Tables of zeros, and no rules.
use mathlib.Core.Path.{refl}
use Rattle.plane.specs.Picture.{joined}
use Rattle.rules.specs.Words.{rules_of}
use Rattle.desk.specs.Model.{blank}
use Rattle.desk.proofs.state.Desk.new.Goals as goal

pub returns : goal.returns
unfolding blank rules_of joined
returns c = refl
