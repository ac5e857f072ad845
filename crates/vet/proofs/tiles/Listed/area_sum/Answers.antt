use native.Mathlib.Omega.{arith}
use mathlib.Core.Path.{refl}
use Rattle.plane.specs.Picture.{sum_to}
use Rattle.plane.proofs.Counting.{sum_more}
use Rattle.vet.proofs.tiles.Listed.area_sum.Goals as goal

pub loop-i-init : goal.loop-i-init
unfolding sum_to
loop-i-init c = (refl, omega arith)

pub loop-i-preserved : goal.loop-i-preserved
loop-i-preserved c = (sum_more _ _ c.loop-i.invariant.0 (rw c.tile.ensures at c.squares-sum.ensures.0), omega arith)
