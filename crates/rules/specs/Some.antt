-- Bounded search: some number below a bound passes a test, some entry of a list passes it, every entry of it has a property.
use Rattle.std.specs.Prelude.{ℕ, zero, suc, Bool, false, ◌||◌, List, [], ◌∷◌}

-- some number below n passes
unfoldable pub some : ℕ → (ℕ → Bool) → Bool
some zero f = false
some (suc n) f = f n || some n f

-- some entry passes
unfoldable pub some_of : {A : Type 0} → List A → (A → Bool) → Bool
some_of [] f = false
some_of (a ∷ l) f = f a || some_of l f

-- every entry has the property
abbrev pub Every : {A : Type 0} → (A → Type 0) → List A → Type 0
Every P [] = Unit {0}
Every P (a ∷ l) = P a × Every P l
