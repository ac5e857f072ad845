-- The ways through the test of a layout with its rules, and what a layout that passed it has: its tables are planes of one window.
use Prim.Native.Nat.{ℕ, ◌≤◌}
use native.Mathlib.Omega.{arith}
use mathlib.Core.Path.{◌≡◌, refl, sym}
use mathlib.Core.Logic.{inl, inr}
use mathlib.Core.List.{List}
use lib.ListN.{length}
use Rattle.std.specs.Prelude.{Result, Ok, Err}
use Rattle.std.specs.Result.{MatchResult, IsErrAnd}
use Rattle.std.proofs.lemmas.Result.{err_from_is_err_and}
use Rattle.plane.specs.declared.tile.Area.{Area}
use Rattle.plane.specs.Area.{AreaIn}
use Rattle.plane.specs.Words.{width, height, kinds}
use Rattle.plane.proofs.Lowests.{all_hold}
use Rattle.rules.specs.Vetting.{ListLength, vetted}
use Rattle.rules.proofs.Vetted.{all_sound, bad_lowest}
use Rattle.sheet.specs.declared.shape.SheetError.{SheetError}
use Rattle.sheet.specs.declared.shape.SheetError.TheVariants.{BadRule}
use Rattle.sheet.specs.Answers.{ready_number, ready_place}
use Rattle.sheet.specs.Layout.{Layout, OneLength, Marks, IsLayout}
use Rattle.sheet.specs.Ready.{ready_refusals, Readied, Fit}

-- a slice of a table's length has words for a header
pub layout_words : {l : Layout} → OneLength l → 13 ≤ length l.material
layout_words L = omega (arith, L.material.words, L.material.least)

-- ---- the tests, in the order of their numbers
module _ {l : Layout} {rules : List ℕ} {used : ℕ} where
  pub ready_lengths : (OneLength l → ⊥) → Readied l rules used 1 0
  ready_lengths f = record { number = inl ((λ L. f L.tables), refl); lowest = refl }

  pub ready_list : (ListLength (length rules) used → ⊥) → Readied l rules used 1 0
  ready_list f = record { number = inl ((λ L. f L.list), refl); lowest = refl }

  module _ (L : OneLength l) (R : ListLength (length rules) used) where
    pub ready_tables : (IsLayout l → ⊥) → Readied l rules used 3 0
    ready_tables f = record { number = inr (record { tables = L; list = R }, inl (f, refl)); lowest = refl }

    pub ready_bad : {i : ℕ} → IsLayout l → vetted rules used (kinds l.material) ≡ Err i → Readied l rules used 4 i
    ready_bad {i} I e =
        let b = bad_lowest rules used (kinds l.material) i e in
        record { number = inr (record { tables = L; list = R }, inr (I, inl (b.1, refl))); lowest = b.0 }

    pub ready_good : IsLayout l → vetted rules used (kinds l.material) ≡ Ok (tt {0}) → Readied l rules used 0 0
    ready_good I e = record { number = inr (record { tables = L; list = R }, inr (I, inr (all_sound rules used (kinds l.material) e, refl))); lowest = refl }

  -- where the lengths and the tables are right, the rules' test decides
  pub ready_by_rules : OneLength l → ListLength (length rules) used → IsLayout l → (v : Result (Unit {0}) ℕ) (r : Result (Unit {0}) SheetError) → v ≡ vetted rules used (kinds l.material)
      → MatchResult v (λ x. r ≡ Ok x) (λ i. IsErrAnd r (λ e. e ≡ BadRule i)) → Readied l rules used (ready_number r) (ready_place r)
  ready_by_rules L R I (Ok x) r e m = rw m (ready_good L R I (sym e))
  ready_by_rules L R I (Err i) r e m = let f = err_from_is_err_and r m in rw (f.1, f.2) (ready_bad L R I (sym e))

  -- what passed is fit
  pub ready_fit : {place : ℕ} → Readied l rules used 0 place → Fit l rules used
  ready_fit R =
      let g = all_hold 0 (ready_refusals l rules used) (omega arith, (omega arith, (omega arith, tt))) R.number in
      record { lengths = g.0; tables = g.1.0; sound = g.1.1.0 }

-- an area of the material's window is one of the marks'
pub marks_area : {ms ws : List ℕ} {a : Area} → Marks ms ws → AreaIn (width ms) (height ms) a → AreaIn (width ws) (height ws) a
marks_area M A = record { some_x = A.some_x; some_y = A.some_y; in_x = omega (arith, A.in_x, M.wide); in_y = omega (arith, A.in_y, M.tall) }
