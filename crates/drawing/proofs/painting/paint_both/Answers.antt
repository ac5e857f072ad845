-- The tiles of waiting are counted first. A law of Paints at each return.
use Rattle.drawing.proofs.Paints.{none_marked, none_painted, both_painted}
use Rattle.drawing.proofs.painting.paint_both.Goals as goal

pub returns-in_err-tiles_after : goal.returns-in_err-tiles_after
returns-in_err-tiles_after c = rw c.from_residual.ensures (none_marked c.requires.paintable.1 c.in_err-tiles_after.ensures)

pub returns-in_err-paint_table : goal.returns-in_err-paint_table
returns-in_err-paint_table c = rw c.from_residual-in_err-paint_table.ensures (none_painted c.requires.paintable.1 c.requires.paintable.0 c.in_err-paint_table.ensures)

pub returns : goal.returns
returns c = both_painted c.requires.paintable.1 c.requires.paintable.0 c.paint_table-2.result c.in_ok-tiles_after.ensures c.in_ok-paint_table.ensures c.paint_table-2.ensures
