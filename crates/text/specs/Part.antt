-- A line's parts: what stands between its blanks. Two blanks in a row have an empty part between them.
use Rattle.std.specs.Prelude.{ℕ, suc, ◌+◌, Bool, cond, not, List, [], ◌∷◌, eqb, drop}

-- a byte is a blank: byte 32 alone
abbrev pub blank : ℕ → Bool
blank c = eqb c 32

-- a byte belongs to a part
abbrev pub unblank : ℕ → Bool
unblank c = not (blank c)

-- how many bytes a list begins with that pass a test
unfoldable pub leading : (ℕ → Bool) → List ℕ → ℕ
leading f [] = 0
leading f (c ∷ l) = cond (f c) (suc (leading f l)) 0

-- how many blanks a list begins with
abbrev pub blanks : List ℕ → ℕ
blanks l = leading blank l

-- how many bytes stand before the first blank
abbrev pub part_length : List ℕ → ℕ
part_length l = leading unblank l

-- where the part ends that starts at a place
abbrev pub part_end : List ℕ → ℕ → ℕ
part_end text at = at + part_length (drop at text)

-- a byte put in front of the first part
unfoldable pub onto : ℕ → List (List ℕ) → List (List ℕ)
onto c [] = (c ∷ []) ∷ []
onto c (w ∷ ws) = (c ∷ w) ∷ ws

-- the parts of a line
unfoldable pub parts : List ℕ → List (List ℕ)
parts [] = [] ∷ []
parts (c ∷ l) = cond (blank c) ([] ∷ parts l) (onto c (parts l))

-- the parts after the first: what is left of a list is the blank and what follows it
abbrev pub parts_left : List ℕ → List (List ℕ)
parts_left [] = []
parts_left (c ∷ l) = parts l

-- a byte put in front of a line that has no blanks at its end
unfoldable pub on_front : ℕ → List ℕ → List ℕ
on_front c [] = cond (blank c) [] (c ∷ [])
on_front c (d ∷ l) = c ∷ d ∷ l

-- a line without the blanks at its end
unfoldable pub unblanked : List ℕ → List ℕ
unblanked [] = []
unblanked (c ∷ l) = on_front c (unblanked l)
