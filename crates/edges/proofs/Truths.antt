-- Truth values: one of four, and one of eight.
use mathlib.Core.Bool.{Bool, true, ◌||◌}
use mathlib.Core.Path.{◌≡◌}
use mathlib.Core.Logic.{⊎_elim}
use Rattle.rules.proofs.Searches.{or_left, or_right, or_cases}

pub four1 : (a b c d : Bool) → a ≡ true → (a || b || c || d) ≡ true
four1 a b c d e = or_left d (or_left c (or_left b e))

pub four2 : (a b c d : Bool) → b ≡ true → (a || b || c || d) ≡ true
four2 a b c d e = or_left d (or_left c (or_right a e))

pub four3 : (a b c d : Bool) → c ≡ true → (a || b || c || d) ≡ true
four3 a b c d e = or_left d (or_right (a || b) e)

pub four4 : (a b c d : Bool) → d ≡ true → (a || b || c || d) ≡ true
four4 a b c d e = or_right (a || b || c) e

pub split4 : {R : Type 0} (a b c d : Bool) → (a ≡ true → R) → (b ≡ true → R) → (c ≡ true → R) → (d ≡ true → R) → (a || b || c || d) ≡ true → R
split4 a b c d f g h k e = ⊎_elim (λ e. ⊎_elim (λ e. ⊎_elim f g (or_cases a b e)) h (or_cases (a || b) c e)) k (or_cases (a || b || c) d e)

pub split8 : {R : Type 0} (a b c d e f g h : Bool) → (a ≡ true → R) → (b ≡ true → R) → (c ≡ true → R) → (d ≡ true → R) → (e ≡ true → R) → (f ≡ true → R) → (g ≡ true → R) → (h ≡ true → R)
    → (a || b || c || d || e || f || g || h) ≡ true → R
split8 a b c d e f g h p₁ p₂ p₃ p₄ p₅ p₆ p₇ p₈ z =
    ⊎_elim (λ z. ⊎_elim (λ z. ⊎_elim (λ z. ⊎_elim (split4 a b c d p₁ p₂ p₃ p₄) p₅ (or_cases (a || b || c || d) e z)) p₆ (or_cases (a || b || c || d || e) f z))
    p₇ (or_cases (a || b || c || d || e || f) g z)) p₈ (or_cases (a || b || c || d || e || f || g) h z)
