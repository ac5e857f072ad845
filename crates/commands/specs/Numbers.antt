-- What has been read of a line's numbers.
use Rattle.std.specs.Prelude.{◌≡◌, true, false, Option, MatchOption, ℕ, ◌≤◌, List}
use Rattle.commands.specs.Command.{all_numbers, values, accepts}

-- all parts are numbers, and they are n
pub record Good (n : List ℕ) (ws : List (List ℕ)) : Type 0 where
  pub all : all_numbers ws ≡ true
  pub are : values ws ≡ n

-- no command takes the parts
abbrev pub Bad : List (List ℕ) → Type 0
Bad ws = (m : ℕ) → m ≤ 8 → accepts m ws ≡ false

-- the parts have been read
abbrev pub Read : Option (List ℕ) → List (List ℕ) → Type 0
Read r ws = MatchOption r (Bad ws) (λ n. Good n ws)
