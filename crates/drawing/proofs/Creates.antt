-- What create makes where it is accepted.
use Prim.Native.Nat.{ℕ}
use mathlib.Core.Path.{◌≡◌, refl, ◌∙◌, ap}
use mathlib.Core.Logic.{inr}
use mathlib.Core.List.{List}
use Rattle.plane.specs.Picture.{table, space}
use Rattle.plane.specs.Words.{InRange}
use Rattle.sheet.specs.Layout.{Layout, lent, room, OneLength}
use Rattle.drawing.specs.Create.{fresh, Created}

-- a layout by its three tables
pub lent_same : {m e w m' e' w' : List ℕ} → m ≡ m' → e ≡ e' → w ≡ w' → lent m e w ≡ lent m' e' w'
lent_same a b c = λ i. lent (a i) (b i) (c i)

module _ {before : Layout} {w h t : ℕ} where
  pub created_done : {after : Layout} {c : ℕ} → OneLength before → InRange w h t → c ≡ room before
      → after.material ≡ table c w h t space → after.errors ≡ table c w h 2 space → after.waiting ≡ table c w h 2 space → Created before w h t 0 after
  created_done L R e p q s = record {
    outcome = record { number = inr (L, inr (R, refl)); leaves = lent_same p q s ∙ ap (λ (n : ℕ). fresh n w h t) e };
  }
