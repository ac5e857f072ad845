-- `command`. A line that is too long is no command.
use Rattle.lines.proofs.Steps.{long_in}
use Rattle.lines.proofs.state.State.command.Goals as goal

pub returns-in-None : goal.returns-in-None
returns-in-None c = λ p R. long_in _ p R cc
