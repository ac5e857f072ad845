-- `count_squares` meets its contract. The loop keeps the sum of what the tiles so far share with the area; at the end that is `squares_in`, by `shares_add_up`.
use native.Mathlib.Omega.{arith}
use mathlib.Core.Path.{◌≡◌, refl, ◌∙◌}
use Rattle.plane.specs.Picture.{sum_to}
use Rattle.plane.specs.Words.{count}
use Rattle.plane.proofs.Counting.{sum_more}
use Rattle.plane.proofs.Shares.{shares_add_up}
use Rattle.plane.proofs.table.Table.count_squares.Goals as goal

pub loop-i-init : goal.loop-i-init
unfolding sum_to
loop-i-init c = (refl, omega arith)

pub loop-i-preserved : goal.loop-i-preserved
loop-i-preserved c =
    (sum_more _ _ c.loop-i.invariant.0 (rw c.tile.ensures.value at c.squares_in-sum.ensures.0), omega arith)

pub returns : goal.returns
returns c =
    let e : c.loop-i.i ≡ count c.args.self.now = omega arith in
    c.loop-i.invariant.0 ∙ rw e (shares_add_up c.count-i-end.ensures.plane c.args.kind c.requires)
