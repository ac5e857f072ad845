-- Words, byte for byte.
use Rattle.std.specs.Prelude.{ℕ, Bool, true, false, ◌&&◌, List, [], ◌∷◌, eqb}

-- two words are the same
unfoldable pub sameb : List ℕ → List ℕ → Bool
sameb [] [] = true
sameb [] (d ∷ m) = false
sameb (c ∷ l) [] = false
sameb (c ∷ l) (d ∷ m) = eqb c d && sameb l m
