-- A brush of bits, by `after_stamped`.
use Rattle.plane.specs.Words.{picture_of}
use Rattle.tables.proofs.Whole.{after_stamped, painted_as}
use Rattle.tables.proofs.table.stamp_table.Goals as goal

pub returns : goal.returns
returns c = painted_as c.args.room c.args.t.now c.paint_over.new.t c.paint_over.result (after_stamped (picture_of c.args.t.now) c.args.a c.args.rows) c.paint_over.ensures
