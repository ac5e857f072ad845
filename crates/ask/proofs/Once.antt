-- Each question has one outcome: two that meet its statement have the same answer and leave the same words.
use Prim.Native.Nat.{ℕ}
use mathlib.Core.Path.{◌≡◌, ap}
use mathlib.Core.List.{List}
use Rattle.std.specs.Prelude.{Result}
use Rattle.plane.specs.declared.answer.Refusal.{Refusal}
use Rattle.plane.specs.declared.tile.Area.{Area}
use Rattle.plane.specs.Answers.{number, value}
use Rattle.plane.specs.Area.{SquaresCounted, TilesListed}
use Rattle.plane.specs.Listing.{Listing}
use Rattle.plane.specs.Point.{Pointed}
use Rattle.plane.specs.Refusal.{outcome_once}
use Rattle.ask.specs.Side.{Neighboured}
use Rattle.plane.proofs.Once.{value_once}

pub point_once : {ws : List ℕ} {w h x y : ℕ} (r r' : Result ℕ Refusal) → Pointed ws w h x y (number r) (value r) → Pointed ws w h x y (number r') (value r') → r ≡ r'
point_once r r' p q = let e = outcome_once p.outcome q.outcome in value_once r r' e.0 e.1

pub neighbours_once : {ws : List ℕ} {w h i side : ℕ} {out after after' : List ℕ} (r r' : Result ℕ Refusal) → Neighboured ws w h i side out (number r) (value r) after → Neighboured ws w h i side out (number r') (value r') after' → (r ≡ r') × (after ≡ after')
neighbours_once r r' p q =
    let e = outcome_once p.outcome q.outcome in
    (value_once r r' e.0 (ap (λ (l : Listing). l.entries) e.1), ap (λ (l : Listing). l.slice) e.1)

pub squares_once : {ws : List ℕ} {k : ℕ} {a : Area} (r r' : Result ℕ Refusal) → SquaresCounted ws k a (number r) (value r) → SquaresCounted ws k a (number r') (value r') → r ≡ r'
squares_once r r' p q = let e = outcome_once p.outcome q.outcome in value_once r r' e.0 e.1

pub tiles_once : {ws : List ℕ} {k : ℕ} {a : Area} {out after after' : List ℕ} (r r' : Result ℕ Refusal) → TilesListed ws k a out (number r) (value r) after → TilesListed ws k a out (number r') (value r') after' → (r ≡ r') × (after ≡ after')
tiles_once r r' p q =
    let e = outcome_once p.outcome q.outcome in
    (value_once r r' e.0 (ap (λ (l : Listing). l.entries) e.1), ap (λ (l : Listing). l.slice) e.1)
