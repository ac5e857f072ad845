-- The place, the tiles moved up, the tile put, by `with_tile`.
use Rattle.slots.proofs.Places.{with_tile}
use Rattle.slots.proofs.slots.insert.Goals as goal

pub returns : goal.returns
returns c = with_tile c.place_of-i.ensures c.requires.in_order_to.0 c.requires.in_order_to.1 c.shift.ensures c.put_tile.ensures
