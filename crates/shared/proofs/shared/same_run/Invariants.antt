use Rattle.std.specs.Prelude.{ℕ, true, ◌<◌}
use Rattle.shared.proofs.shared.same_run.Given as goal

abbrev pub invariant-loop-k : goal.invariant-loop-k
invariant-loop-k g l = (j : ℕ) → j < l.k → goal.F-post g l.same j true
