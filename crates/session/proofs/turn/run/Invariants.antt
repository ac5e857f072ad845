-- `run`. The invariant is RunningAt: the exchanges of the chunks so far have passed over the wire, have led to the state, and are what the reader lost and the writer gained.
use Rattle.session.proofs.Turns.{RunningAt}
use Rattle.session.proofs.turn.run.Given as goal

abbrev pub invariant-loop-turn : goal.invariant-loop-turn
invariant-loop-turn g l = RunningAt l.session l._turn (g.R.Read.remaining l.initial.reader) (g.R.Read.remaining l.reader) (g.W.Write.contents l.initial.writer) (g.W.Write.contents l.writer)
