use Rattle.sweep.specs.Lending.{layout_of, Kept}
use Rattle.sweep.specs.Turn.{Came}
use lib.ListN.{length}
use mathlib.Core.Path.{◌≡◌}
use Prim.Native.Nat.{◌≤◌, ◌-◌}
use Rattle.checker.proofs.check.check_run.Given as goal

abbrev pub invariant-loop-done : goal.invariant-loop-done
invariant-loop-done l = (l.done ≤ l.n) × Kept l.initial.lent l.lent × (length l.lent.work.now ≡ length l.lent.material.now) × Came (layout_of l.initial.lent) (layout_of l.lent) l.rules.words.now l.rules.used l.done

abbrev pub decreases-loop-done : goal.decreases-loop-done
decreases-loop-done l = l.n - l.done
