-- A line that is being read: the bytes since the last line end.
use Rattle.std.specs.Prelude.{◌≡◌, Bool, cond, Option, Some, None, List, ℕ, ltb, length}

-- a line of more than 200 bytes is too long
abbrev pub too_long : List ℕ → Bool
too_long p = ltb 200 (length p)

-- what a line keeps of the bytes p: all while they are 200 at most, and then none
abbrev pub kept : List ℕ → Option (List ℕ)
kept p = cond (too_long p) None (Some p)

-- l has read the bytes p of its line
abbrev pub Reads : Option (List ℕ) → List ℕ → Type 0
Reads l p = l ≡ kept p
