-- `list_tiles` meets its contract. The loop keeps that the tiles so far that are met are listed.
use native.Mathlib.Omega.{arith}
use mathlib.Core.Path.{◌≡◌}
use Rattle.plane.specs.Area.{tiles_in}
use Rattle.plane.specs.Words.{count}
use Rattle.plane.specs.Picture.{joined}
use Rattle.plane.proofs.Listings.{listed_none, listed_more}
use Rattle.plane.proofs.table.Table.list_tiles.Goals as goal

pub loop-number-init : goal.loop-number-init
unfolding joined
loop-number-init c = (omega arith, listed_none)

pub loop-number-preserved : goal.loop-number-preserved
loop-number-preserved c =
    (omega arith, listed_more _ _ c.loop-number.invariant.1 (rw c.tile.ensures.value at c.list_tile-m.ensures.0))

pub returns : goal.returns
unfolding tiles_in
returns c =
    let e : c.loop-number.number ≡ count c.args.self.now = omega arith in
    rw (← e) c.loop-number.invariant.1
