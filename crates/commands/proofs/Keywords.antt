-- A word of which every byte is known is that word.
use mathlib.Core.Bool.{true}
use mathlib.Core.Path.{◌≡◌, refl, ap}
use mathlib.Core.List.{List, [], ◌∷◌}
use Prim.Native.Nat.{ℕ, ◌+◌, ◌<◌}
use native.Mathlib.Omega.{arith}
use native.Mathlib.Numerals.{add-one}
use lib.ListN.{length, get_or, drop, drop_of_length-le}
use lib.Seq.{drop-cons}
use borrow.Author.Tests.{eq-eqb}
use Rattle.text.specs.Word.{sameb}

-- a word of which every byte is known
abbrev pub Spelt : List ℕ → ℕ → List ℕ → Type 0
Spelt w i [] = length w ≡ i
Spelt w i (c ∷ m) = (i < length w) × (get_or w i 0 ≡ c) × Spelt w (i + 1) m

spelt_from : (w m : List ℕ) (i : ℕ) → Spelt w i m → drop i w ≡ m
spelt_from w [] i h = drop_of_length-le w (omega (arith, h))
spelt_from w (c ∷ m) i h = rw (drop-cons w i 0 h.0, h.1, ← add-one i) (ap (λ (z : List ℕ). c ∷ z) (spelt_from w m (i + 1) h.2))

pub spelt : (w m : List ℕ) → Spelt w 0 m → w ≡ m
spelt w m h = spelt_from w m 0 h

same_self : (m : List ℕ) → sameb m m ≡ true
unfolding sameb
same_self [] = refl
same_self (c ∷ m) = rw (eq-eqb c c refl) (same_self m)

same_spelt : (w m : List ℕ) → Spelt w 0 m → sameb w m ≡ true
same_spelt w m h = rw (spelt w m h) (same_self m)

-- the two longest words; each law is for words of which its last byte has been read, and says so first, since grind finds a law by that
pub report_spelt : (w : List ℕ) → (get_or w 5 0 ≡ get_or w 5 0) × (let m : List ℕ = 114 ∷ 101 ∷ 112 ∷ 111 ∷ 114 ∷ 116 ∷ [] in Spelt w 0 m → sameb w m ≡ true)
report_spelt w = (refl, same_spelt w (114 ∷ 101 ∷ 112 ∷ 111 ∷ 114 ∷ 116 ∷ []))

pub spacing_spelt : (w : List ℕ) → (get_or w 6 0 ≡ get_or w 6 0) × (let m : List ℕ = 115 ∷ 112 ∷ 97 ∷ 99 ∷ 105 ∷ 110 ∷ 103 ∷ [] in Spelt w 0 m → sameb w m ≡ true)
spacing_spelt w = (refl, same_spelt w (115 ∷ 112 ∷ 97 ∷ 99 ∷ 105 ∷ 110 ∷ 103 ∷ []))
