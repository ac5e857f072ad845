-- The number, and the value, of each answer of the calls.
use Rattle.std.specs.Prelude.{ℕ, Result, Ok, Err}
use Rattle.plane.specs.declared.answer.Refusal.{Refusal}
use Rattle.plane.specs.declared.answer.Refusal.TheVariants.{Lengths, Sizes, NoTable, NoRule, Kind, Place, Full}

-- the numbers that say no
abbrev pub refusal_number : Refusal → ℕ
refusal_number Lengths = 1
refusal_number Sizes = 2
refusal_number NoTable = 3
refusal_number NoRule = 4
refusal_number Kind = 5
refusal_number Place = 6
refusal_number Full = 7

-- the number of a call's answer: 0 if it was accepted
abbrev pub number : {A : Type 0} → Result A Refusal → ℕ
number (Ok x) = 0
number (Err r) = refusal_number r

-- the number that a call gives beside, 0 if it was refused: a tile's, or a count
abbrev pub value : Result ℕ Refusal → ℕ
value (Ok n) = n
value (Err r) = 0
