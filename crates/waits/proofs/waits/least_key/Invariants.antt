use Rattle.waits.specs.Waits.{LeastOf}
use Rattle.waits.proofs.waits.least_key.Given as goal

abbrev pub invariant-loop-i : goal.invariant-loop-i
invariant-loop-i l = LeastOf l.t l.i l.least
