-- The number, and the values, of each answer of the calls; a value is 0 where the answer names none.
use Rattle.std.specs.Prelude.{ℕ, cond, List, Option, Some, None, Result, Ok, Err}
use Rattle.sheet.specs.declared.shape.SheetError.{SheetError}
use Rattle.sheet.specs.declared.shape.SheetError.TheVariants as sheet
use Rattle.sheet.specs.declared.report.Errors.{Errors}
use Rattle.sheet.specs.declared.report.Found.{Found}
use Rattle.sheet.specs.declared.report.ReportError.{ReportError}
use Rattle.sheet.specs.declared.report.ReportError.TheVariants as report
use Rattle.sheet.specs.Report.{Findings}

-- what speaks against a layout, as it speaks against a report
abbrev pub as_report : SheetError → ReportError
as_report sheet.Lengths = report.Lengths
as_report sheet.NoTable = report.NoTable
as_report (sheet.BadRule i) = report.BadRule i

-- the number of a refused report, and the lowest bad rule's place
abbrev pub error_number : ReportError → ℕ
error_number report.Lengths = 1
error_number report.NoTable = 3
error_number (report.BadRule i) = 4
error_number report.Place = 6
error_number report.Full = 7

abbrev pub error_place : ReportError → ℕ
error_place report.Lengths = 0
error_place report.NoTable = 0
error_place (report.BadRule i) = i
error_place report.Place = 0
error_place report.Full = 0

-- the test of a layout with its rules: its number, and the lowest bad rule's place
abbrev pub ready_number : Result (Unit {0}) SheetError → ℕ
ready_number (Ok x) = 0
ready_number (Err e) = error_number (as_report e)

abbrev pub ready_place : Result (Unit {0}) SheetError → ℕ
ready_place (Ok x) = 0
ready_place (Err e) = error_place (as_report e)

-- the errors of an area: their number, the squares, and the tiles
abbrev pub errors_number : Option Errors → ℕ
errors_number (Some e) = 0
errors_number None = 7

abbrev pub errors_squares : Option Errors → ℕ
errors_squares (Some e) = e.squares
errors_squares None = 0

abbrev pub errors_tiles : Option Errors → ℕ
errors_tiles (Some e) = e.tiles
errors_tiles None = 0

-- report: its number, the lowest bad rule's place, settled, the error squares, and the error tiles
abbrev pub report_number : Result Found ReportError → ℕ
report_number (Ok f) = 0
report_number (Err e) = error_number e

abbrev pub report_place : Result Found ReportError → ℕ
report_place (Ok f) = 0
report_place (Err e) = error_place e

abbrev pub report_settled : Result Found ReportError → ℕ
report_settled (Ok f) = cond f.settled 1 0
report_settled (Err e) = 0

abbrev pub report_squares : Result Found ReportError → ℕ
report_squares (Ok f) = f.squares
report_squares (Err e) = 0

abbrev pub report_tiles : Result Found ReportError → ℕ
report_tiles (Ok f) = f.tiles
report_tiles (Err e) = 0

-- what report found, and the slice that it left
abbrev pub found_by : Result Found ReportError → List ℕ → Findings
found_by r after = record { settled = report_settled r; squares = report_squares r; tiles = report_tiles r; slice = after }
