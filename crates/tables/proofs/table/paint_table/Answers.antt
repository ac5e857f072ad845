-- A brush of one type, by `after_painted`.
use Rattle.plane.specs.Words.{picture_of}
use Rattle.tables.proofs.Whole.{after_painted, painted_as}
use Rattle.tables.proofs.table.paint_table.Goals as goal

pub returns : goal.returns
returns c = painted_as c.args.room c.args.t.now c.paint_over.new.t c.paint_over.result (after_painted (picture_of c.args.t.now) c.args.a c.args.kind) c.paint_over.ensures
