-- `command_of`. What stands behind the first blanks, to the line's end, has the line's command.
use Rattle.std.proofs.Common.{arith}
use Rattle.commands.proofs.Whole.{reader_within}
use Rattle.commands.proofs.command.command_of.Goals as goal

pub slice_bounds-command_from-count : goal.slice_bounds-command_from-count
slice_bounds-command_from-count c = reader_within _ _ c.requires

pub slice_bounds-command_from-start : goal.slice_bounds-command_from-start
slice_bounds-command_from-start c = omega (arith, reader_within _ _ c.requires)
