-- The ways through check: its tests, what it leaves where they say no and where they pass, and how a run ends.
use Prim.Native.Nat.{ℕ, suc, ◌+◌, ◌-◌, ◌<◌}
use native.Mathlib.Omega.{arith}
use mathlib.Core.Path.{◌≡◌, refl, subst, sym, ◌∙◌, ap}
use mathlib.Core.List.{List}
use lib.ListN.{length}
use Rattle.plane.specs.Refusal.{Lowest}
use Rattle.plane.proofs.Lowests.{all_hold}
use Rattle.std.specs.Prelude.{Result, Err}
use Rattle.sheet.specs.declared.shape.SheetError.{SheetError}
use Rattle.sheet.specs.declared.shape.SheetError.TheVariants as sheet
use Rattle.checker.specs.declared.check.CheckError.{CheckError}
use Rattle.checker.specs.declared.check.Progress.{Progress}
use Rattle.checker.specs.Answers.{check_error, check_number, check_place, check_done, check_left}
use Rattle.sheet.specs.Answers.{ready_number, ready_place}
use Rattle.checker.specs.Check.{check_refusals}
use Rattle.sweep.specs.Run.{Run, check_run}
use Rattle.checker.specs.CheckSteps.{CheckTested, CheckedBut, RanTo}
use Rattle.sheet.specs.Layout.{Layout}
use Rattle.sheet.specs.Ready.{Fit}
use mathlib.Core.Bool.{true, false}
use Rattle.rules.specs.Words.{halo_of, rules_of}
use Rattle.sweep.specs.Turn.{Came, OverAt, more}

module _ {l : Layout} {work rules : List ℕ} {used : ℕ} where
  -- what passed them
  pub passed_fit : Lowest (check_refusals l work rules used) 0 → Fit l rules used × (length work ≡ length l.material)
  passed_fit p =
      let g = all_hold 0 (check_refusals l work rules used) (omega arith, (omega arith, (omega arith, tt))) p in
      (record { lengths = record { tables = g.0.tables.tables; list = g.0.list }; tables = g.1.0; sound = g.1.1.0 }, g.0.tables.working)

  -- ---- by their answer
  module _ {r : Result (Unit {0}) SheetError} (T : CheckTested l work rules used (ready_number r) (ready_place r)) where
    said : (a : Result (Unit {0}) SheetError) → r ≡ a → CheckTested l work rules used (ready_number a) (ready_place a)
    said a e = subst (λ (z : Result (Unit {0}) SheetError). CheckTested l work rules used (ready_number z) (ready_place z)) e T

    pub check_refused : {n : ℕ} (s : SheetError) → r ≡ Err s → (let a : Result Progress CheckError = Err (check_error s) in CheckedBut l work rules used n (check_number a) (check_place a) (check_done a) (check_left a) l)
    check_refused sheet.Lengths e zeros z = let t = said (Err sheet.Lengths) e in record { tested = 1; number = t.number; leaves = refl; lowest = t.lowest; zero = z }
    check_refused sheet.NoTable e zeros z = let t = said (Err sheet.NoTable) e in record { tested = 3; number = t.number; leaves = refl; lowest = t.lowest; zero = z }
    check_refused (sheet.BadRule i) e zeros z = let t = said (Err (sheet.BadRule i)) e in record { tested = 4; number = t.number; leaves = refl; lowest = t.lowest; zero = z }

-- ---- the end of a run
module _ {l here : Layout} {rules : List ℕ} {used d n : ℕ} (C : Came l here rules used d) where
  ends : {x : ℕ} → d < n → OverAt x here rules used → check_run n (rules_of rules used) (halo_of rules used) l ≡ record { number = x; done = d; layout = here }
  ends {x} u f =
      let m = n - d - 1 in
      let g : d + 0 ≡ d = omega arith in
      ap (λ (z : ℕ). check_run z (rules_of rules used) (halo_of rules used) l) (omega arith) ∙ (C.run (suc m) ∙ (ap (λ (z : Run). more d z) (f m) ∙ (λ i. record { number = x; done = g i; layout = here })))

  -- at a piece without room
  pub ran_full : d < n → OverAt 7 here rules used → RanTo l rules used n (record { done = d; full = true }) here
  ran_full u f = record { run = ends u f; fit = C.fit }

  -- where none waits
  pub ran_idle : d < n → OverAt 0 here rules used → RanTo l rules used n (record { done = d; full = false }) here
  ran_idle u f = record { run = ends u f; fit = C.fit }

-- all turns are done
pub ran_all : {l here : Layout} {rules : List ℕ} {used d n : ℕ} → Came l here rules used d → d ≡ n → RanTo l rules used n (record { done = d; full = false }) here
unfolding check_run
ran_all {l} {here} {rules} {used} {d} {n} C e =
    let g : d + 0 ≡ d = omega arith in
    record {
      run = ap (λ (z : ℕ). check_run z (rules_of rules used) (halo_of rules used) l) (sym e ∙ sym g) ∙ (C.run 0 ∙ (λ i. record { number = 0; done = g i; layout = here }));
      fit = C.fit;
    }
