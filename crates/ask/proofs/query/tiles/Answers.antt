-- The first listing writes nothing, so a refusal leaves the slice; the second writes all.
use Rattle.ask.proofs.Asked.{tiles_done}
use Rattle.ask.proofs.query.tiles.Goals as goal

pub returns : goal.returns
returns c = let t = c.in_ok-table.ensures in
    tiles_done t.answer (rw (c.width.ensures.value, c.height.ensures.value, t.table.0) at c.if-not-lies_in.ensures) (rw t.table.0 at c.list_tiles-n.ensures) c.if-out-n.false (rw t.table.0 at c.list_tiles.ensures)
