use Prim.Native.Nat.{◌≤◌}
use Rattle.stitches.proofs.restitch.guess_places.Given as goal

abbrev pub invariant-loop-g : goal.invariant-loop-g
invariant-loop-g l = l.j ≤ l.tiles.count
