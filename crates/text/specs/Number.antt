-- A number in a line: decimal digits, at least one, of a value up to 65535. Zeros may stand in front.
use Rattle.std.specs.Prelude.{ℕ, ◌+◌, ◌-◌, ◌*◌, Bool, true, false, ◌&&◌, List, [], ◌∷◌, leb, Option, Some, None}

-- a byte is one of 0 to 9
abbrev pub digit : ℕ → Bool
digit c = leb 48 c && leb c 57

-- all bytes are digits
unfoldable pub digits : List ℕ → Bool
digits [] = true
digits (c ∷ l) = digit c && digits l

-- the value of digits behind others of the value a
unfoldable pub value_from : ℕ → List ℕ → ℕ
value_from a [] = a
value_from a (c ∷ l) = value_from (a * 10 + (c - 48)) l

-- the value of digits
abbrev pub value : List ℕ → ℕ
value w = value_from 0 w

-- there is at least one byte
abbrev pub nonempty : List ℕ → Bool
nonempty [] = false
nonempty (c ∷ l) = true

-- a part is a number
abbrev pub is_number : List ℕ → Bool
is_number w = nonempty w && (digits w && leb (value w) 65535)

-- the number n, where a part is one
abbrev pub pick_number : Bool → ℕ → Option ℕ
pick_number true n = Some n
pick_number false n = None

-- the number that a part is
abbrev pub number_of : List ℕ → Option ℕ
number_of w = pick_number (is_number w) (value w)
