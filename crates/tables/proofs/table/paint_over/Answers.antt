-- Too many tiles, or tiles, stitches and header made and taken over, by `finished`.
use mathlib.Core.Path.{sym, ◌∙◌}
use native.Mathlib.Omega.{arith}
use Rattle.brush.proofs.Shows.{plane_given}
use Rattle.tables.proofs.Finish.{built_tight, finished}
use Rattle.tables.proofs.Whole.{may_plane, may_room, painted_done}
use Rattle.tables.proofs.table.paint_over.Goals as goal

pub of-table-requires : goal.of-table-requires
of-table-requires c = may_plane c.requires.may_paint

pub of-requires : goal.of-requires
of-requires c = rw c.of-table.ensures (plane_given (may_plane c.requires.may_paint) c.requires.may_paint.brush)

pub rebuild-requires : goal.rebuild-requires
rebuild-requires c = let m = may_room c.requires.may_paint in rw (c.of.ensures, c.of-table.ensures) (record { work_len = (c.requires.work_len, omega (arith, m.0), m.1) })

pub restitch-requires : goal.restitch-requires
restitch-requires c =
    let m = may_room c.requires.may_paint in
    let B = rw (c.of.ensures, c.of-table.ensures) at c.in_ok-n.ensures in
    record {
      n_in_bounds = (omega (arith, c.rebuild.auto.work, c.requires.work_len, m.0, B.few), omega (arith, m.2, B.few));
      tight = rw c.of-table.ensures (built_tight B);
    }

pub adopt-requires : goal.adopt-requires
adopt-requires c =
    let m = may_room c.requires.may_paint in
    let B = rw (c.of.ensures, c.of-table.ensures) at c.in_ok-n.ensures in
    (may_plane c.requires.may_paint, sym (c.put_header.ensures.long ∙ (c.restitch.ensures.long ∙ (c.rebuild.auto.work ∙ c.requires.work_len))), omega (arith, m.0, B.few))

pub returns : goal.returns
returns c =
    let m = may_room c.requires.may_paint in
    let B = rw (c.of.ensures, c.of-table.ensures) at c.in_ok-n.ensures in
    painted_done c.requires.may_paint B (finished B c.restitch.ensures c.put_header.ensures c.adopt.ensures (c.rebuild.auto.work ∙ (c.requires.work_len ∙ m.0)))
