-- What the script reader does: past blanks, and on to the next line.
use Rattle.std.specs.Prelude.{ℕ, ◌+◌, List, drop}
use Rattle.text.specs.Part.{blanks}
use Rattle.text.specs.declared.script.Script.{Script}

-- the place after the blanks that stand at a place
abbrev pub past_blanks : List ℕ → ℕ → ℕ
past_blanks text at = at + blanks (drop at text)

-- the script after its blanks, on the same line
abbrev pub skipped : List ℕ → Script → Script
skipped text s = record { at = past_blanks text s.at; line = s.line }

-- the start of the next line
abbrev pub next_line : Script → Script
next_line s = record { at = 0; line = s.line + 1 }
