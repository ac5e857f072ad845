-- Sets of types: a word has bit t for type t.
use Rattle.std.specs.Prelude.{ℕ, ◌-◌, ◌/◌, ◌%◌, ◌^◌, Bool, not, ◌&&◌, eqb}
use Rattle.rules.specs.Some.{some}

-- does the set hold type t
unfoldable pub member : ℕ → ℕ → Bool
member s t = eqb (s / 2 ^ t % 2) 1

-- has the set no bit at t or above
unfoldable pub within : ℕ → ℕ → Bool
within t s = eqb (s / 2 ^ t) 0

-- everything outside a set, of the types below t
unfoldable pub others : ℕ → ℕ → ℕ
others t s = 2 ^ t - 1 - s

-- do both sets hold type i
unfoldable pub both : ℕ → ℕ → ℕ → Bool
unfolding member
both a b i = member a i && member b i

-- do the two sets share no type below t
unfoldable pub disjoint : ℕ → ℕ → ℕ → Bool
unfolding some both
disjoint t a b = not (some t (both a b))
