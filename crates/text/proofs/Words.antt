-- Two words compared: by the library's `==` as by the definition.
use mathlib.Core.Path.{◌≡◌, refl, ap}
use mathlib.Core.Bool.{Bool, false, ◌&&◌, and-false}
use mathlib.Core.List.{List, [], ◌∷◌}
use Prim.Native.Nat.{ℕ, suc}
use lib.Dec.{eqb}
use lib.ListN.{length}
use Rattle.std.specs.Cmp.Lexicographic.{pointwise}
use Rattle.text.specs.Word.{sameb}

pub same_lengths : (a b : List ℕ) → (length a ≡ length b → ⊥) → sameb a b ≡ false
unfolding sameb
same_lengths [] [] n = absurd (n refl)
same_lengths [] (d ∷ m) n = refl
same_lengths (c ∷ l) [] n = refl
same_lengths (c ∷ l) (d ∷ m) n = rw (same_lengths l m (λ e. n (ap suc e))) (and-false (eqb c d))

-- what `==` answers of two slices of bytes
pub same_is : (a b : List ℕ) → pointwise eqb a b ≡ sameb a b
unfolding sameb
same_is [] [] = refl
same_is [] (d ∷ m) = refl
same_is (c ∷ l) [] = refl
same_is (c ∷ l) (d ∷ m) = ap (λ (b : Bool). eqb c d && b) (same_is l m)
