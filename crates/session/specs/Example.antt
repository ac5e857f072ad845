-- The specification's example session, by computation: what the program writes on its input (crates/session/stdin) is its output (crates/session/stdout).
use Rattle.std.specs.Prelude.{◌≡◌, refl, [], ◌∷◌}
use Rattle.plane.specs.Picture.{extent, table, tiles, painted, sum_to}
use Rattle.plane.specs.Words.{kind_in, up_to}
use Rattle.plane.specs.Area.{squares_in, tiles_in}
use Rattle.macros.specs.Macros.{width, width_sound, spacing, spacing_sound}
use Rattle.rules.specs.Words.{sound, reach}
use Rattle.waits.specs.Pieces.{lowest_block, lowest_piece, waiting_pieces, piece_waits, waits_at, in_window, some_in, pieces}
use Rattle.piece.specs.Remark.{remarked, near_block}
use Rattle.rules.specs.Forbid.{forbidden}
use Rattle.rules.specs.Some.{some}
use Rattle.sweep.specs.Run.{check_run}
use Rattle.sheet.specs.Report.{settled}
use Rattle.text.specs.Number.{digits, value_from}
use Rattle.text.specs.Decimal.{decimal_in}
use Rattle.text.specs.Part.{leading, onto, parts, on_front, unblanked}
use Rattle.text.specs.Word.{sameb}
use Rattle.commands.specs.Command.{keyword_in, all_numbers, values}
use Rattle.desk.specs.Model.{blank, answered, opened, added, painted_by, checked_by, reported_on, halo}
use Rattle.desk.specs.Tests.{in_range, area_in, both_fit, has_room}
use Rattle.lines.specs.Session.{fed, output, written}

pub example : written (110 ∷ 101 ∷ 119 ∷ 32 ∷ 56 ∷ 32 ∷ 56 ∷ 32 ∷ 50 ∷ 10 ∷ 119 ∷ 105 ∷ 100 ∷ 116 ∷ 104 ∷ 32 ∷ 50 ∷ 32 ∷ 50 ∷ 32 ∷ 49 ∷ 10 ∷ 115 ∷ 112 ∷ 97 ∷ 99 ∷ 105 ∷ 110 ∷ 103 ∷ 32 ∷ 50 ∷ 32 ∷ 50 ∷ 32 ∷ 50 ∷ 32 ∷ 49 ∷ 32 ∷ 50 ∷ 10 ∷ 112 ∷ 97 ∷ 105 ∷ 110 ∷ 116 ∷ 32 ∷ 49 ∷ 32 ∷ 49 ∷ 32 ∷ 51 ∷ 32 ∷ 54 ∷ 32 ∷ 49 ∷ 10 ∷ 112 ∷ 97 ∷ 105 ∷ 110 ∷ 116 ∷ 32 ∷ 52 ∷ 32 ∷ 49 ∷ 32 ∷ 54 ∷ 32 ∷ 54 ∷ 32 ∷ 49 ∷ 10 ∷ 114 ∷ 101 ∷ 112 ∷ 111 ∷ 114 ∷ 116 ∷ 32 ∷ 48 ∷ 32 ∷ 48 ∷ 32 ∷ 56 ∷ 32 ∷ 56 ∷ 10 ∷ 99 ∷ 104 ∷ 101 ∷ 99 ∷ 107 ∷ 32 ∷ 52 ∷ 10 ∷ 114 ∷ 101 ∷ 112 ∷ 111 ∷ 114 ∷ 116 ∷ 32 ∷ 48 ∷ 32 ∷ 48 ∷ 32 ∷ 56 ∷ 32 ∷ 56 ∷ 10 ∷ 112 ∷ 97 ∷ 105 ∷ 110 ∷ 116 ∷ 32 ∷ 52 ∷ 32 ∷ 49 ∷ 32 ∷ 54 ∷ 32 ∷ 54 ∷ 32 ∷ 48 ∷ 10 ∷ 114 ∷ 101 ∷ 112 ∷ 111 ∷ 114 ∷ 116 ∷ 32 ∷ 48 ∷ 32 ∷ 48 ∷ 32 ∷ 56 ∷ 32 ∷ 56 ∷ 10 ∷ 99 ∷ 104 ∷ 101 ∷ 99 ∷ 107 ∷ 32 ∷ 49 ∷ 10 ∷ 114 ∷ 101 ∷ 112 ∷ 111 ∷ 114 ∷ 116 ∷ 32 ∷ 48 ∷ 32 ∷ 48 ∷ 32 ∷ 56 ∷ 32 ∷ 56 ∷ 10 ∷ 112 ∷ 97 ∷ 105 ∷ 110 ∷ 116 ∷ 32 ∷ 51 ∷ 32 ∷ 51 ∷ 32 ∷ 51 ∷ 32 ∷ 53 ∷ 32 ∷ 49 ∷ 10 ∷ []) ≡ 111 ∷ 107 ∷ 10 ∷ 111 ∷ 107 ∷ 10 ∷ 111 ∷ 107 ∷ 10 ∷ 111 ∷ 107 ∷ 10 ∷ 111 ∷ 107 ∷ 10 ∷ 114 ∷ 101 ∷ 112 ∷ 111 ∷ 114 ∷ 116 ∷ 32 ∷ 48 ∷ 32 ∷ 48 ∷ 32 ∷ 48 ∷ 10 ∷ 99 ∷ 104 ∷ 101 ∷ 99 ∷ 107 ∷ 32 ∷ 48 ∷ 32 ∷ 49 ∷ 32 ∷ 48 ∷ 10 ∷ 114 ∷ 101 ∷ 112 ∷ 111 ∷ 114 ∷ 116 ∷ 32 ∷ 49 ∷ 32 ∷ 53 ∷ 32 ∷ 49 ∷ 10 ∷ 111 ∷ 107 ∷ 10 ∷ 114 ∷ 101 ∷ 112 ∷ 111 ∷ 114 ∷ 116 ∷ 32 ∷ 48 ∷ 32 ∷ 53 ∷ 32 ∷ 49 ∷ 10 ∷ 99 ∷ 104 ∷ 101 ∷ 99 ∷ 107 ∷ 32 ∷ 48 ∷ 32 ∷ 49 ∷ 32 ∷ 48 ∷ 10 ∷ 114 ∷ 101 ∷ 112 ∷ 111 ∷ 114 ∷ 116 ∷ 32 ∷ 49 ∷ 32 ∷ 48 ∷ 32 ∷ 48 ∷ 10 ∷ 110 ∷ 111 ∷ 32 ∷ 54 ∷ 32 ∷ 49 ∷ 51 ∷ 10 ∷ []
unfolding fed output blank answered opened added painted_by checked_by reported_on halo in_range area_in both_fit has_room table tiles painted kind_in up_to width width_sound spacing spacing_sound sound reach check_run settled squares_in tiles_in lowest_block lowest_piece waiting_pieces piece_waits waits_at in_window some_in pieces some sum_to extent remarked near_block forbidden leading onto parts on_front unblanked sameb keyword_in all_numbers values digits value_from decimal_in
example = refl
