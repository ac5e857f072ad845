-- The sum is that of the tiles passed, and at most 16,777,216 for each.
use Rattle.std.proofs.Common.{◌≡◌, ◌≤◌, ◌*◌}
use Rattle.vet.specs.Checks.{areas}
use Rattle.vet.proofs.tiles.Listed.area_sum.Given as goal

abbrev pub invariant-loop-i : goal.invariant-loop-i
invariant-loop-i l = (l.sum ≡ areas l.self.words.now l.i) × (l.sum ≤ 16777216 * l.i)
