use Prim.Native.Nat.{◌-◌}
use Rattle.stitches.specs.Stitch.{SameTiles}
use Rattle.stitches.proofs.guess.guess_under.Given as goal

abbrev pub invariant-loop-x : goal.invariant-loop-x
invariant-loop-x l = SameTiles l.initial.work l.work

abbrev pub decreases-loop-x : goal.decreases-loop-x
decreases-loop-x l = l.right - l.x
