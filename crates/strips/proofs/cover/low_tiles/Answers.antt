-- The place past the end of the row above the area, by `low_to`.
use Rattle.strips.proofs.Stays.{low_to}
use Rattle.strips.proofs.cover.low_tiles.Goals as goal

pub place_of-requires : goal.place_of-requires
place_of-requires c = rw (c.from-tiles.ensures.0, c.from-tiles.ensures.1, c.table.ensures) (record { in_order_to = c.width.ensures.given.shown.order })

pub returns : goal.returns
returns c = low_to c.args.p.now.brush.area c.width.ensures.given.shown (rw (c.width.ensures.value, c.area.ensures.value) at c.past.ensures) (rw (c.table.ensures) at c.from-tiles.ensures.1) (rw (c.from-tiles.ensures.0, c.table.ensures) at c.place_of.ensures)
