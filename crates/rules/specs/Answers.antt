-- The number of each answer to a list of rules, and the place that it names; a place is 0 where none is named.
use Rattle.std.specs.Prelude.{ℕ, Result, Ok, Err}
use Rattle.rules.specs.declared.list.ListError.{ListError}
use Rattle.rules.specs.declared.list.ListError.TheVariants.{Lengths, Sizes, BadRule}

-- the number of what speaks against a list
abbrev pub error_number : ListError → ℕ
error_number Lengths = 1
error_number Sizes = 2
error_number (BadRule i) = 4

-- the test of a list: its number, and the lowest bad rule's place
abbrev pub list_number : Result (Unit {0}) ListError → ℕ
list_number (Ok x) = 0
list_number (Err e) = error_number e

abbrev pub list_place : Result (Unit {0}) ListError → ℕ
list_place (Ok x) = 0
list_place (Err Lengths) = 0
list_place (Err Sizes) = 0
list_place (Err (BadRule i)) = i
