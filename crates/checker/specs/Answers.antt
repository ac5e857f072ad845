-- The number, and the values, of check's answer; a value is 0 where the answer has none.
use Rattle.std.specs.Prelude.{ℕ, Result, Ok, Err}
use Rattle.sheet.specs.declared.shape.SheetError.{SheetError}
use Rattle.sheet.specs.declared.shape.SheetError.TheVariants as sheet
use Rattle.checker.specs.declared.check.Progress.{Progress}
use Rattle.checker.specs.declared.check.CheckError.{CheckError}
use Rattle.checker.specs.declared.check.CheckError.TheVariants as check

-- what check says where its tests say no
abbrev pub check_error : SheetError → CheckError
check_error sheet.Lengths = check.Lengths
check_error sheet.NoTable = check.NoTable
check_error (sheet.BadRule i) = check.BadRule i

-- the number of a refused check, the lowest bad rule's place, the pieces done, and the pieces left
abbrev pub error_number : CheckError → ℕ
error_number check.Lengths = 1
error_number check.NoTable = 3
error_number (check.BadRule i) = 4
error_number (check.Full p) = 7

abbrev pub error_place : CheckError → ℕ
error_place check.Lengths = 0
error_place check.NoTable = 0
error_place (check.BadRule i) = i
error_place (check.Full p) = 0

abbrev pub error_done : CheckError → ℕ
error_done check.Lengths = 0
error_done check.NoTable = 0
error_done (check.BadRule i) = 0
error_done (check.Full p) = p.done

abbrev pub error_left : CheckError → ℕ
error_left check.Lengths = 0
error_left check.NoTable = 0
error_left (check.BadRule i) = 0
error_left (check.Full p) = p.left

-- the same of any answer of check
abbrev pub check_number : Result Progress CheckError → ℕ
check_number (Ok p) = 0
check_number (Err e) = error_number e

abbrev pub check_place : Result Progress CheckError → ℕ
check_place (Ok p) = 0
check_place (Err e) = error_place e

abbrev pub check_done : Result Progress CheckError → ℕ
check_done (Ok p) = p.done
check_done (Err e) = error_done e

abbrev pub check_left : Result Progress CheckError → ℕ
check_left (Ok p) = p.left
check_left (Err e) = error_left e
