-- The tiles of the rebuild, for a brush of one type.
use Rattle.plane.specs.Words.{picture_of}
use Rattle.brush.proofs.Shows.{plane_given}
use Rattle.tables.proofs.Whole.{after_painted, paintable_plane, table_rooms, tiles_as}
use Rattle.tables.proofs.table.tiles_after.Goals as goal

pub of-table-requires : goal.of-table-requires
of-table-requires c = paintable_plane c.requires.paintable

pub of-requires : goal.of-requires
of-requires c = rw c.of-table.ensures (plane_given (paintable_plane c.requires.paintable) (record { area = c.requires.paintable.area; small = tt }))

pub rebuild-requires : goal.rebuild-requires
rebuild-requires c = let m = table_rooms c.requires.paintable.table in rw (c.of.ensures, c.of-table.ensures) (record { work_len = (c.requires.kind_bound.1, m.0, m.1) })

pub returns : goal.returns
returns c = tiles_as c.args.room c.args.t.now c.rebuild.new.work c.rebuild.result (after_painted (picture_of c.args.t.now) c.args.a c.args.kind) (rw (c.of.ensures, c.of-table.ensures) at c.rebuild.ensures)
