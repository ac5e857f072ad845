-- What check keeps and counts, whatever it answers: what each piece keeps, and so a sound layout; it does no more pieces than asked for, and one that does none changes nothing.
use Prim.Native.Nat.{ℕ, zero, suc, ◌+◌, ◌≤◌}
use native.Mathlib.Omega.{arith}
use mathlib.Core.Bool.{Bool, true, false}
use mathlib.Core.Path.{◌≡◌, refl, sym, ◌∙◌, ap, subst}
use mathlib.Core.List.{List}
use Rattle.plane.specs.Refusal.{Lowest, if_done}
use Rattle.rules.specs.declared.rule.Rule.{Rule}
use Rattle.rules.specs.Words.{halo_of, rules_of}
use Rattle.std.specs.Prelude.{Option, Some, None}
use Rattle.waits.specs.declared.block.Block.{Block}
use Rattle.sweep.specs.Run.{Run, after_block, check_run, fits_block, lowest_of, turn, CheckLeft, ran_check}
use Rattle.checker.specs.Check.{Checked, check_refusals, refused_check}
use Rattle.sheet.specs.Layout.{Layout, SoundLayout}
use Rattle.sheet.specs.Ready.{Fit}
use Rattle.checker.proofs.Checkings.{passed_fit}
use Rattle.checker.proofs.Runs.{Keeps, piece_fit, run_idle, run_keeps}

-- ---- a run
turn_few : (b : Option Block) (f : Bool) (l : Layout) (r : Run) (n : ℕ) → r.done ≤ n → (turn b f l r).done ≤ suc n
turn_few None f l r n u = omega arith
turn_few (Some b) true l r n u = omega arith
turn_few (Some b) false l r n u = omega arith

pub run_few : (n : ℕ) (rs : List Rule) (k : ℕ) (l : Layout) → (check_run n rs k l).done ≤ n
unfolding check_run
run_few zero rs k l = omega arith
run_few (suc n) rs k l =
    turn_few (lowest_of l) (fits_block l rs k (lowest_of l)) l (check_run n rs k (after_block l rs k (lowest_of l))) n (run_few n rs k (after_block l rs k (lowest_of l)))

pub run_fit : {rules : List ℕ} {used : ℕ} (n : ℕ) (l : Layout) → Fit l rules used → Fit (check_run n (rules_of rules used) (halo_of rules used) l).layout rules used
run_fit {rules} {used} n l F = run_keeps rules used (λ (d : ℕ) (m : Layout). Fit m rules used) (λ d m bx by D G. piece_fit D) n 0 l F F

-- ---- the call
-- what check leaves if t is the number of its tests
abbrev pub left_by : Layout → List ℕ → ℕ → ℕ → ℕ → CheckLeft
left_by before rules used n t = if_done t (ran_check (check_run n (rules_of rules used) (halo_of rules used) before)) (refused_check t before)

module _ (rules : List ℕ) (used : ℕ) (Q : ℕ → Layout → Type 0) (keeps : Keeps rules used Q) where
  keeps_by : (before : Layout) (work : List ℕ) (n t d : ℕ) → Lowest (check_refusals before work rules used) t → Q d before → Q (d + (left_by before rules used n t).done) (left_by before rules used n t).layout
  keeps_by before work n zero d p q = run_keeps rules used Q keeps n d before (passed_fit {work = work} p).0 q
  keeps_by before work n (suc t) d p q = subst (λ (z : ℕ). Q z before) (omega arith) q

  -- whatever check answers
  pub check_carries : {before after : Layout} {work zeros : List ℕ} {n answer place done left : ℕ} (d : ℕ) → Checked before work rules used n answer place done left after zeros → Q d before → Q (d + done) after
  check_carries {before} {work = work} {n = n} d C q = subst (λ (x : CheckLeft). Q (d + x.done) x.layout) (sym C.leaves) (keeps_by before work n C.tested d C.number q)

-- so a sound layout stays sound
pub check_keeps : {before after : Layout} {work rules zeros : List ℕ} {used n answer place done left : ℕ} → Checked before work rules used n answer place done left after zeros → SoundLayout before → SoundLayout after
check_keeps {rules = rules} {used = used} C S = check_carries rules used (λ (d : ℕ) (l : Layout). SoundLayout l) (λ d l bx by D q. let F = piece_fit D in record { lengths = F.lengths.tables; tables = F.tables }) 0 C S

-- ---- a check that does no piece
idle_by : (before : Layout) (rules : List ℕ) (used n t : ℕ) → (left_by before rules used n t).done ≡ 0 → (left_by before rules used n t).layout ≡ before
idle_by before rules used n zero e = run_idle n (rules_of rules used) (halo_of rules used) before e
idle_by before rules used n (suc t) e = refl

-- it changes nothing
pub check_idle : {before after : Layout} {work rules zeros : List ℕ} {used n answer place left : ℕ} → Checked before work rules used n answer place 0 left after zeros → after ≡ before
check_idle {before} {rules = rules} {used = used} {n = n} C =
    ap (λ (x : CheckLeft). x.layout) C.leaves ∙ idle_by before rules used n C.tested (sym (ap (λ (x : CheckLeft). x.done) C.leaves))

few_by : (before : Layout) (rules : List ℕ) (used n t : ℕ) → (left_by before rules used n t).done ≤ n
few_by before rules used n zero = run_few n (rules_of rules used) (halo_of rules used) before
few_by before rules used n (suc t) = omega arith

-- check 0 does no piece and changes nothing
pub check_nothing : {before after : Layout} {work rules zeros : List ℕ} {used answer place done left : ℕ} → Checked before work rules used 0 answer place done left after zeros → (after ≡ before) × (done ≡ 0)
check_nothing {before} {rules = rules} {used = used} C =
    let e = ap (λ (x : CheckLeft). x.done) C.leaves in
    let u = few_by before rules used 0 C.tested in
    (ap (λ (x : CheckLeft). x.layout) C.leaves ∙ idle_by before rules used 0 C.tested (omega arith), omega (arith, e))
