-- Lists padded with zeros: nothing in use yet, and an item more.
use mathlib.Core.Path.{sym, ap, ◌∙◌}
use mathlib.Core.List.{List}
use Prim.Native.Nat.{ℕ, ◌+◌, ◌-◌, ◌<◌}
use native.Mathlib.Omega.{arith}
use lib.ListN.{drop, set, replicate}
use Rattle.std.proofs.lemmas.List.{length-set, drop-drop, drop-set-lt, drop-replicate, length-replicate}
use Rattle.text.specs.Padding.{Padded}

-- of zeros alone nothing is in use
pub padded_none : (m : ℕ) → Padded m 0 (replicate m 0)
padded_none m = record { fits = omega arith; size = length-replicate m 0; zeros = drop-replicate 0 m 0 }

-- an item more
pub padded_push : {m n : ℕ} {l : List ℕ} (b : ℕ) → Padded m n l → n < m → Padded m (n + 1) (set l n b)
padded_push {m} {n} {l} b p h = record {
  fits = omega arith;
  size = length-set l n b ∙ p.size;
  zeros = drop-set-lt (n + 1) l n b (omega arith) ∙ (sym (drop-drop 1 n l) ∙ (ap (drop 1) p.zeros ∙ (drop-replicate 1 (m - n) 0 ∙ ap (λ (k : ℕ). replicate k 0) (omega arith))));
}
