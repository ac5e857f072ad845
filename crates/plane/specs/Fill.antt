-- A list with a part set to one value.
use Rattle.std.specs.Prelude.{ℕ, ◌<◌, ◌≤◌, List, ◌≡◌, length, get_or}

-- m' is m with v from index `from` up to `to`
pub record Filled (v from to : ℕ) (m m' : List ℕ) : Type 0 where
  pub long : length m' ≡ length m
  pub here : (q : ℕ) → q < length m → from ≤ q → q < to → get_or m' q 0 ≡ v
  pub else : (q : ℕ) → (from ≤ q → q < to → ⊥) → get_or m' q 0 ≡ get_or m q 0
