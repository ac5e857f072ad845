use Rattle.sweep.proofs.RowSweep.{SoFar}
use Rattle.sheet.specs.Layout.{lent}
use mathlib.Core.Path.{◌≡◌}
use Rattle.sweep.proofs.sweep.mark_row.Given as goal

abbrev pub invariant-loop-x : goal.invariant-loop-x
invariant-loop-x l = (l.end ≡ l.x) × SoFar (lent l.material l.initial.errors l.waiting) l.rules.words.now l.rules.used l.lowest.x l.lowest.y l.n l.errors l.done l.x
