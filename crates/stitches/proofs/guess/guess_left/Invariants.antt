use Prim.Native.Nat.{◌+◌, ◌-◌}
use Rattle.stitches.proofs.guess.guess_left.Given as goal

abbrev pub decreases-loop-top : goal.decreases-loop-top
decreases-loop-top l = l.y + 1 - l.top
