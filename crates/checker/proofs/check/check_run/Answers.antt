-- The turns so far are the beginning of the whole run: `Came` with the loop's `done`. The measure is what is left of n.
use Rattle.sweep.proofs.Turns.{waiting_plane, idle_over, came_join}
use Rattle.checker.proofs.Checkings.{ran_full, ran_idle, ran_all}
use mathlib.Core.Path.{sym, ◌∙◌}
use native.Mathlib.Omega.{arith}
use Rattle.checker.proofs.check.check_run.Goals as goal

pub lowest_waiting-requires : goal.lowest_waiting-requires
lowest_waiting-requires c = waiting_plane c.loop-done.invariant.3.fit

pub returns-in_default-clause-ran : goal.returns-in_default-clause-ran
returns-in_default-clause-ran c = ran_idle c.loop-done.invariant.3 (omega arith) (idle_over c.loop-done.invariant.3.fit (sym c.in_default.is ∙ c.lowest_waiting.ensures))

pub returns-then-turn-clause-ran : goal.returns-then-turn-clause-ran
returns-then-turn-clause-ran c = ran_full (came_join c.loop-done.invariant.3 c.one_turn-turn.ensures.turned.came) (omega (arith, (c.one_turn-turn.ensures.turned.stuck c.if-turn.true).0)) (c.one_turn-turn.ensures.turned.stuck c.if-turn.true).1

pub returns-clause-ran : goal.returns-clause-ran
returns-clause-ran c = ran_all c.loop-done.invariant.3 (omega arith)
