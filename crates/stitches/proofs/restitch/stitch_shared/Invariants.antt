use Rattle.stitches.specs.Stitch.{StitchedTo}
use Rattle.stitches.proofs.restitch.stitch_shared.Given as goal

abbrev pub invariant-loop-i : goal.invariant-loop-i
invariant-loop-i l = StitchedTo l.initial.work l.n l.work l.i
