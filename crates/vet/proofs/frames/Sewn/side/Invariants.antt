-- The right side is known from row y up. The measure is y.
use Rattle.vet.proofs.Checked.{Down}
use Rattle.vet.proofs.frames.Sewn.side.Given as goal

abbrev pub invariant-loop-y : goal.invariant-loop-y
invariant-loop-y l = Down l.self.tiles.words.now l.i l.y l.s

abbrev pub decreases-loop-y : goal.decreases-loop-y
decreases-loop-y l = l.y
