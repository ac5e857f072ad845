use Rattle.stitches.specs.Stitch.{SameTiles}
use Rattle.stitches.proofs.guess.guess_links.Given as goal

abbrev pub invariant-loop-j : goal.invariant-loop-j
invariant-loop-j l = SameTiles l.initial.work l.work
