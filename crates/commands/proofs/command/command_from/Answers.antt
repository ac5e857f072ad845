-- `command_from`. The line's bytes without the blanks at its end are those before the place found.
use Rattle.std.proofs.Common.{sym, ap, ◌∙◌, arith, ℕ, take}
use lib.Seq.{length-take-le}
use Rattle.text.proofs.Parts.{unblanked_take, unblanked_within}
use Rattle.commands.specs.Command.{command_bare}
use Rattle.commands.proofs.command.command_from.Goals as goal

pub slice_bounds-command_bare-end : goal.slice_bounds-command_bare-end
slice_bounds-command_bare-end c = sym (length-take-le c.unblanked_length.result c.args.text.now (omega (arith, unblanked_within c.args.text.now)))

pub returns : goal.returns
returns c = c.command_bare.ensures ∙ ap command_bare (ap (λ (e : ℕ). take e c.args.text.now) c.unblanked_length.ensures ∙ unblanked_take c.args.text.now)
