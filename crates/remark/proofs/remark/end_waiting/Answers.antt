-- The table is painted where it has room, by `remade`; else it stays.
use Rattle.remark.proofs.MarkErrors.{remade, unmade}
use Rattle.remark.proofs.remark.end_waiting.Goals as goal

pub returns-in_err-paint_table : goal.returns-in_err-paint_table
returns-in_err-paint_table c = rw c.from_residual.ensures (unmade _ c.requires.paintable c.in_err-paint_table.ensures)

pub returns : goal.returns
returns c = remade _ _ c.requires.paintable c.in_ok-paint_table.ensures
