-- What each step is handed follows from the piece whose errors are marked; where the marks are recorded already the errors stay (`kept_words`, `kept_room`, which the function names), else the stamped picture is the piece's.
use Rattle.remark.proofs.MarkErrors.{piece_checkable, piece_block, piece_halo, errors_readable, errors_paintable, errors_small, as_errors}
use mathlib.Core.Path.{sym, ◌∙◌}
use native.Mathlib.Omega.{arith}
use Rattle.remark.proofs.remark.remark.Goals as goal

pub near_area-near-requires : goal.near_area-near-requires
near_area-near-requires c = (piece_block c.requires, omega (arith, piece_halo c.requires c.halo-k.ensures))

pub near_marks-rows-requires : goal.near_marks-rows-requires
near_marks-rows-requires c = piece_checkable c.requires c.halo-k.ensures

pub shows_rows-requires : goal.shows_rows-requires
shows_rows-requires c = errors_readable c.requires c.halo-k.ensures c.near_area-near.ensures

pub mark_errors-requires : goal.mark_errors-requires
mark_errors-requires c = record { paintable = errors_paintable c.requires _ c.room_in.ensures c.near_area-near.ensures; small = (errors_small c.requires c.halo-k.ensures c.near_area-near.ensures, c.requires.working ∙ sym c.requires.long) }

pub returns : goal.returns
returns c = as_errors c.requires c.halo-k.ensures c.near_area-near.ensures c.near_marks-rows.ensures c.mark_errors.ensures
