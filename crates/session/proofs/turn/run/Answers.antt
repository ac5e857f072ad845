-- `run`. A turn keeps RunningAt, and what finish leaves to be said ends the talk.
use Rattle.std.proofs.Common.{true, ◌≡◌, ◌^◌, ◌≤◌, sym, ◌∙◌, arith}
use Rattle.std.proofs.lemmas.Bool.{false≢true}
use Rattle.session.proofs.Turns.{running_at_start, running_at_on, conversed_at}
use Rattle.session.proofs.turn.run.Goals as goal
use Rattle.session.proofs.turn.run.Goals.{else-loop-turn-test, then-loop-turn-test+then-not-is_open}

pub loop-turn-init : goal.loop-turn-init
loop-turn-init g c =
    let u = c.unused.ensures in
    running_at_start _ _ c.new.ensures.0 c.new.ensures.1 u.heard u.said u.carried

pub loop-turn-preserved : goal.loop-turn-preserved
loop-turn-preserved g c = running_at_on c.loop-turn.invariant (sym c.is_open.ensures ∙ c.if-not-is_open.false) c.turn.ensures

pub returns : goal.returns
returns g c =
    let far : c.loop-turn.session.wire.open ≡ true → 2 ^ 48 ≤ c.loop-turn._turn = λ o. elim c.loop-turn-test.branch [ else-loop-turn-test w ↦ omega arith | then-loop-turn-test+then-not-is_open w ↦ absurd (false≢true (sym w.if-not-is_open.true ∙ (w.is_open.ensures ∙ o))) ] in
    conversed_at c.loop-turn.invariant far c.finish-n.ensures.said.1 c.say.ensures.says c.say.ensures.put
