-- A number in decimal, without zeros in front.
use Rattle.std.specs.Prelude.{cond, List, [], ◌∷◌, ◌++◌, ℕ, zero, suc, ◌+◌, ◌/◌, ◌%◌, ltb}

-- the digits of n, at most k of them: those of n / 10, and then the last
unfoldable pub decimal_in : ℕ → ℕ → List ℕ
decimal_in zero n = []
decimal_in (suc k) n = cond (ltb n 10) ((48 + n) ∷ []) (decimal_in k (n / 10) ++ ((48 + n % 10) ∷ []))

-- the digits of a number below 10 ^ 20
abbrev pub decimal : ℕ → List ℕ
decimal n = decimal_in 20 n
