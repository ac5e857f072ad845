-- The table is painted where it has room, by `remade`; else it stays.
use Rattle.remark.proofs.MarkErrors.{remade, unmade}
use Rattle.remark.proofs.remark.mark_errors.Goals as goal

pub returns-in_err-stamp_table : goal.returns-in_err-stamp_table
returns-in_err-stamp_table c = rw c.from_residual.ensures (unmade _ c.requires.paintable c.in_err-stamp_table.ensures)

pub returns : goal.returns
returns c = remade _ _ c.requires.paintable c.in_ok-stamp_table.ensures
