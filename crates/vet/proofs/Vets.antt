-- The ways through the tests of one table: its length, its words, its size. The test has one answer: two that meet its statement are the same.
use Prim.Native.Nat.{ℕ, ◌≤◌}
use native.Mathlib.Omega.{arith}
use mathlib.Core.Path.{◌≡◌, refl}
use mathlib.Core.Logic.{◌⊎◌, inl, inr}
use mathlib.Core.List.{List}
use lib.ListN.{length}
use Rattle.std.specs.Prelude.{Result, Ok, Err}
use Rattle.plane.specs.declared.answer.Refusal.{Refusal}
use Rattle.plane.specs.Answers.{refusal_number, number}
use Rattle.plane.specs.Words.{width, height, room_in, TableLength, PictureTable}
use Rattle.plane.specs.Plane.{Plane}
use Rattle.plane.specs.Point.{TableOf}
use Rattle.plane.specs.Refusal.{lowest_once}
use Rattle.vet.specs.Vet.{vet_refusals, Vetted, sized_refusals, SizedRight}
use Rattle.plane.proofs.FromTable.{table_plane}
use Rattle.plane.proofs.Once.{number_once}
use Rattle.plane.proofs.Lowests.{told_no, told_done, refusal_positive, one_three}

-- a table of the right length that passed
pub record Passed (ws : List ℕ) : Type 0 where
  pub long : TableLength (length ws)
  pub table : PictureTable ws

pub vetted_done : {R : Type 0} {ws : List ℕ} {a : Result R Refusal} {x : R} → Vetted ws (number a) → a ≡ Ok x → Passed ws
vetted_done {R} {ws} T e =
    let g = told_done (vet_refusals ws) one_three T.number e in
    record { long = g.0; table = g.1.0 }

-- its words are a plane, and it has words for a header
pub passed_plane : {ws : List ℕ} → Passed ws → Plane ws
passed_plane {ws} P = table_plane (room_in (length ws)) ws P.table

pub passed_words : {ws : List ℕ} → Passed ws → 13 ≤ length ws
passed_words P = omega (arith, P.long.words, P.long.least)

-- what is no table is no table of a size either
pub sized_no : {R : Type 0} {ws : List ℕ} (w h : ℕ) {a : Result R Refusal} {why : Refusal} → Vetted ws (number a) → a ≡ Err why → SizedRight ws w h (refusal_number why)
sized_no {R} {ws} w h {a} {why} T e = record { number = go (told_no (vet_refusals ws) T.number e) }
  where
    go : ((TableLength (length ws) → ⊥) × (refusal_number why ≡ 1)) ⊎ (TableLength (length ws) × (((PictureTable ws → ⊥) × (refusal_number why ≡ 3)) ⊎ (PictureTable ws × (refusal_number why ≡ 0))))
        → ((TableLength (length ws) → ⊥) × (refusal_number why ≡ 1)) ⊎ (TableLength (length ws) × (((TableOf w h ws → ⊥) × (refusal_number why ≡ 3)) ⊎ (TableOf w h ws × (refusal_number why ≡ 0))))
    go (inl p) = inl p
    go (inr (l, inl p)) = inr (l, inl ((λ T. p.0 T.table), p.1))
    go (inr (l, inr p)) = absurd (omega (arith, refusal_positive why, p.1))

-- another size, or this one
pub sized_other : {ws : List ℕ} {w h : ℕ} → Passed ws → (TableOf w h ws → ⊥) → SizedRight ws w h 3
sized_other P no_table = record { number = inr (P.long, inl (no_table, refl)) }

pub sized_right : {ws : List ℕ} {w h : ℕ} → Passed ws → width ws ≡ w → height ws ≡ h → SizedRight ws w h 0
sized_right P a b = record { number = inr (P.long, inr (record { table = P.table; wide = a; tall = b }, refl)) }

-- a table of that size that passed
pub sized_done : {R : Type 0} {ws : List ℕ} {w h : ℕ} {a : Result R Refusal} {x : R} → SizedRight ws w h (number a) → a ≡ Ok x → Passed ws × TableOf w h ws
sized_done {R} {ws} {w} {h} T e =
    let g = told_done (sized_refusals ws w h) one_three T.number e in
    (record { long = g.0; table = g.1.0.table }, g.1.0)

-- one answer
pub vet_once : {ws : List ℕ} (r r' : Result (Unit {0}) Refusal) → Vetted ws (number r) → Vetted ws (number r') → r ≡ r'
vet_once {ws} r r' p q = number_once r r' (lowest_once (vet_refusals ws) p.number q.number)
