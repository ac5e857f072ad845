-- Lines of the session and their commands, by computing.
use Rattle.std.specs.Prelude.{◌≡◌, refl, List, [], ◌∷◌, ℕ, length, Some, None}
use Rattle.std.proofs.Math.Seq.{drop-length}
use Rattle.commands.specs.Command.{keyword_in, all_numbers, values, command_of}
use Rattle.commands.specs.declared.command.Command.TheVariants.{New, Rule, Spacing, Check}
use Rattle.text.specs.Number.{digits, value_from}
use Rattle.text.specs.Part.{blanks, leading, onto, parts, on_front, unblanked}
use Rattle.text.specs.Word.{sameb}

-- small window: `new 8 8 2`
pub made : command_of (110 ∷ 101 ∷ 119 ∷ 32 ∷ 56 ∷ 32 ∷ 56 ∷ 32 ∷ 50 ∷ []) ≡ Some (New 8 8 2)
unfolding keyword_in all_numbers values digits value_from leading onto parts on_front unblanked sameb
made = refl

-- blanks at both ends: `  spacing 2 2 2 1 2 `
pub ended : command_of (32 ∷ 32 ∷ 115 ∷ 112 ∷ 97 ∷ 99 ∷ 105 ∷ 110 ∷ 103 ∷ 32 ∷ 50 ∷ 32 ∷ 50 ∷ 32 ∷ 50 ∷ 32 ∷ 49 ∷ 32 ∷ 50 ∷ 32 ∷ []) ≡ Some (Spacing 2 2 2 1 2)
unfolding keyword_in all_numbers values digits value_from leading onto parts on_front unblanked sameb
ended = refl

-- eight numbers: `rule 0 1 1 2 1 2 0 0`
pub ruled : command_of (114 ∷ 117 ∷ 108 ∷ 101 ∷ 32 ∷ 48 ∷ 32 ∷ 49 ∷ 32 ∷ 49 ∷ 32 ∷ 50 ∷ 32 ∷ 49 ∷ 32 ∷ 50 ∷ 32 ∷ 48 ∷ 32 ∷ 48 ∷ []) ≡ Some (Rule 0 1 1 2 1 2 0 0)
unfolding keyword_in all_numbers values digits value_from leading onto parts on_front unblanked sameb
ruled = refl

-- leading zeros: `check 0000000004`
pub zeros : command_of (99 ∷ 104 ∷ 101 ∷ 99 ∷ 107 ∷ 32 ∷ 48 ∷ 48 ∷ 48 ∷ 48 ∷ 48 ∷ 48 ∷ 48 ∷ 48 ∷ 48 ∷ 52 ∷ []) ≡ Some (Check 4)
unfolding keyword_in all_numbers values digits value_from leading onto parts on_front unblanked sameb
zeros = refl

-- the largest number: `check 65535`
pub largest : command_of (99 ∷ 104 ∷ 101 ∷ 99 ∷ 107 ∷ 32 ∷ 54 ∷ 53 ∷ 53 ∷ 51 ∷ 53 ∷ []) ≡ Some (Check 65535)
unfolding keyword_in all_numbers values digits value_from leading onto parts on_front unblanked sameb
largest = refl

-- a number above it: `check 65536`
pub above : command_of (99 ∷ 104 ∷ 101 ∷ 99 ∷ 107 ∷ 32 ∷ 54 ∷ 53 ∷ 53 ∷ 51 ∷ 54 ∷ []) ≡ None
unfolding keyword_in all_numbers values digits value_from leading onto parts on_front unblanked sameb
above = refl

-- two blanks between parts: `check  4`
pub twice : command_of (99 ∷ 104 ∷ 101 ∷ 99 ∷ 107 ∷ 32 ∷ 32 ∷ 52 ∷ []) ≡ None
unfolding keyword_in all_numbers values digits value_from leading onto parts on_front unblanked sameb
twice = refl

-- a tab is no blank: `check<tab>4`
pub tab : command_of (99 ∷ 104 ∷ 101 ∷ 99 ∷ 107 ∷ 9 ∷ 52 ∷ []) ≡ None
unfolding keyword_in all_numbers values digits value_from leading onto parts on_front unblanked sameb
tab = refl

-- a keyword in capitals: `Check 4`
pub capital : command_of (67 ∷ 104 ∷ 101 ∷ 99 ∷ 107 ∷ 32 ∷ 52 ∷ []) ≡ None
unfolding keyword_in all_numbers values digits value_from leading onto parts on_front unblanked sameb
capital = refl

-- a number too few: `new 8 8`
pub few : command_of (110 ∷ 101 ∷ 119 ∷ 32 ∷ 56 ∷ 32 ∷ 56 ∷ []) ≡ None
unfolding keyword_in all_numbers values digits value_from leading onto parts on_front unblanked sameb
few = refl

-- a number too many: `new 8 8 2 1`
pub many : command_of (110 ∷ 101 ∷ 119 ∷ 32 ∷ 56 ∷ 32 ∷ 56 ∷ 32 ∷ 50 ∷ 32 ∷ 49 ∷ []) ≡ None
unfolding keyword_in all_numbers values digits value_from leading onto parts on_front unblanked sameb
many = refl

-- a line of nothing or of blanks alone
pub blank_line : (l : List ℕ) → blanks l ≡ length l → command_of l ≡ None
unfolding keyword_in all_numbers values parts unblanked sameb
blank_line l e = rw (e, drop-length l)
