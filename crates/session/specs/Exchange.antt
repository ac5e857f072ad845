-- However the input comes in: what passes over the wire, chunk after chunk.
use Rattle.std.specs.Prelude.{ℕ, List, [], ◌∷◌, ◌++◌}
use Rattle.lines.specs.Session.{Model, start, fed, output, last_words}
use Rattle.session.specs.Wire.{Passed, heard, said}

-- the bytes of chunks, one after the other
unfoldable pub whole : List (List ℕ) → List ℕ
whole [] = []
whole (c ∷ cs) = c ++ whole cs

-- a chunk is heard, and then the replies to the lines that end in it are said
abbrev pub exchange : Model → List ℕ → List Passed
exchange m c = heard c ∷ said (output m c) ∷ []

-- chunk after chunk
unfoldable pub exchanges : Model → List (List ℕ) → List Passed
exchanges m [] = []
exchanges m (c ∷ cs) = exchange m c ++ exchanges (fed m c) cs

-- all that passes over the wire: at the end the reply to a last line without its line end is said
abbrev pub talk : List (List ℕ) → List Passed
talk cs = exchanges start cs ++ (said (last_words (fed start (whole cs))) ∷ [])
