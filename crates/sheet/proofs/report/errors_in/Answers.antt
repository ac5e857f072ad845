-- The second listing writes all.
use Rattle.sheet.proofs.Reports.{errors_done}
use Rattle.sheet.proofs.report.errors_in.Goals as goal

pub returns : goal.returns
returns c = errors_done c.list_tiles-tiles.ensures c.if-out-tiles.false c.list_tiles.ensures c.count_squares-squares.ensures
