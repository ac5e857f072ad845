-- Bytes lead on from where the bytes before them led.
use Prim.Native.Nat.{ℕ, ◌+◌, ◌<◌}
use native.Mathlib.Numerals.{add-one}
use mathlib.Core.Path.{◌≡◌, refl, sym, ap, ◌∙◌}
use mathlib.Core.List.{List, [], ◌∷◌, ◌++◌, append-nil, append_assoc}
use lib.ListN.{length, get_or, take}
use lib.Seq.{take-suc}
use Rattle.lines.specs.Session.{Model, stepped, spoken, fed, output}

pub fed_append : (m : Model) (xs ys : List ℕ) → fed m (xs ++ ys) ≡ fed (fed m xs) ys
unfolding fed
fed_append m [] ys = refl
fed_append m (b ∷ xs) ys = fed_append (stepped m b) xs ys

pub output_append : (m : Model) (xs ys : List ℕ) → output m (xs ++ ys) ≡ output m xs ++ output (fed m xs) ys
unfolding fed output
output_append m [] ys = refl
output_append m (b ∷ xs) ys =
    ap (λ (l : List ℕ). spoken m b ++ l) (output_append (stepped m b) xs ys) ∙ sym (append_assoc (spoken m b) (output (stepped m b) xs) (output (fed (stepped m b) xs) ys))

-- ---- one byte more of a chunk
module _ (m : Model) (l : List ℕ) (i b : ℕ) (h : i < length l) (is : b ≡ get_or l i 0) where
  more : take (i + 1) l ≡ take i l ++ (b ∷ [])
  more = rw (add-one i, is) (take-suc l i 0 h)

  pub fed_more : fed m (take (i + 1) l) ≡ stepped (fed m (take i l)) b
  unfolding fed
  fed_more = ap (fed m) more ∙ fed_append m (take i l) (b ∷ [])

  pub output_more : output m (take (i + 1) l) ≡ output m (take i l) ++ spoken (fed m (take i l)) b
  unfolding output
  output_more = ap (output m) more ∙ (output_append m (take i l) (b ∷ []) ∙ ap (λ (z : List ℕ). output m (take i l) ++ z) (append-nil (spoken (fed m (take i l)) b)))
