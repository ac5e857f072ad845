use Rattle.waits.specs.Waits.{Columns}
use Rattle.waits.proofs.waits.row_of.Given as goal

abbrev pub invariant-loop-i : goal.invariant-loop-i
invariant-loop-i l = Columns l.t l.y l.i l.columns
