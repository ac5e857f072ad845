-- How a history comes to rest: a check that is told enough pieces and has room does every piece that waits, and when nothing waits the errors are the table of the full check's marks.
use Prim.Native.Nat.{ℕ, zero, suc, ◌+◌, ◌*◌, ◌≤◌, ◌<◌}
use native.Mathlib.Omega.{arith}
use mathlib.Core.Bool.{Bool, true, false, true≢false}
use mathlib.Core.Path.{◌≡◌, refl, sym, ◌∙◌, ap, subst}
use mathlib.Core.List.{List}
use mathlib.Core.Logic.{inl, inr, ⊎_elim}
use lib.Dec.{leb}
use lib.ListN.{length}
use Rattle.plane.specs.declared.tile.Area.{Area}
use Rattle.plane.specs.Picture.{Picture, table, tiles, written}
use Rattle.plane.specs.Refusal.{Lowest, lowest_once}
use Rattle.plane.specs.Words.{height, kinds, picture_of, room_in, width}
use Rattle.plane.proofs.Basics.{and_both}
use Rattle.plane.proofs.FromTable.{tiles_agree}
use Rattle.plane.proofs.Tiling.{tiles_few}
use Rattle.tables.specs.Like.{table_like}
use Rattle.rules.specs.Words.{halo_of, rules_of}
use Rattle.std.specs.Prelude.{Option, Some, None}
use Rattle.waits.specs.declared.block.Block.{Block}
use Rattle.piece.proofs.Counts.{nothing_waits}
use Rattle.sweep.specs.Run.{Run, after_block, check_run, checked_piece, fits_block, lowest_of, piece_errors, piece_fits, piece_waiting, turn, waiting_of, CheckLeft}
use Rattle.checker.specs.Check.{Checked, check_refusals}
use Rattle.sheet.specs.Layout.{Layout, Marks, room}
use Rattle.sheet.specs.Ready.{Fit}
use Rattle.sheet.specs.Report.{Findings, Reported}
use Rattle.checker.proofs.CheckStays.{check_carries, left_by}
use Rattle.checker.proofs.Checkings.{passed_fit}
use Rattle.checker.proofs.Runs.{one_fewer, piece_fit, run_over}
use Rattle.layout.specs.History.{History, full_marks, fully_marked, then_checked}
use Rattle.layout.proofs.Histories.{far_squares_right, history_fit, history_size, history_sound}
use borrow.Author.Tests.{le-leb}

-- ---- when nothing waits
module _ {rules : List ℕ} {used w h t : ℕ} {l : Layout} {d s : ℕ} (H : History rules used w h t l d s) (rest : waiting_of l ≡ 0) where
  -- every square has the full check's mark
  pub ended_marks_are_full : (x y : ℕ) → x < w → y < h → picture_of l.errors x y ≡ full_marks l rules used x y
  ended_marks_are_full x y u v =
      let M = (history_sound H).tables.waiting in
      let z = history_size H in
      far_squares_right H x y u v (λ i j b c _ _ _ _. nothing_waits (width l.waiting) (height l.waiting) (picture_of l.waiting) rest i j (omega (arith, M.wide, z.0)) (omega (arith, M.tall, z.1)))

  -- when nothing waits, the errors are the table of the full check's marks
  pub ended_list_is_full : l.errors ≡ table_like l.errors (full_marks l rules used)
  unfolding table
  ended_list_is_full =
      let E = (history_sound H).tables.errors in
      let z = history_size H in
      E.table.same
      ∙ ap (written (room_in (length l.errors)) (width l.errors) (height l.errors) (kinds l.errors)) (tiles_agree (width l.errors) (height l.errors) (picture_of l.errors) (full_marks l rules used)
      (λ x y u v. ended_marks_are_full x y (omega (arith, E.wide, z.0)) (omega (arith, E.tall, z.1))))

  -- so a report finds what it finds in a layout with the full check's marks: it lists exactly the full check's error tiles
  pub ended_report_is_full : {others out : List ℕ} {n answer place : ℕ} {a : Area} {found : Findings} → Reported l others n a out answer place found → Reported (fully_marked l rules used) others n a out answer place found
  ended_report_is_full {others} {out} {n} {answer} {place} {a} {found} R =
      subst (λ (es : List ℕ). Reported (record { material = l.material; errors = es; waiting = l.waiting }) others n a out answer place found) ended_list_is_full R

-- ---- enough pieces
-- the pieces done and those that wait afterwards are those that waited
pub check_counts : {before after : Layout} {work rules zeros : List ℕ} {used n answer place done left : ℕ} → Checked before work rules used n answer place done left after zeros → done + waiting_of after ≡ waiting_of before
check_counts {before} {rules = rules} {used = used} C =
    let e = check_carries rules used (λ (d : ℕ) (l : Layout). d + waiting_of l ≡ waiting_of before) (λ d l bx by D q. omega (arith, q, one_fewer D)) 0 C (omega arith) in
    omega (arith, e)

-- what check leaves where it answers 0
ends_by : (before : Layout) (rules : List ℕ) (used n t : ℕ) (x : CheckLeft) → x ≡ left_by before rules used n t → x.number ≡ 0 → x.done + waiting_of x.layout ≡ waiting_of before → waiting_of before ≤ n → (x.left ≡ 0) × (waiting_of x.layout ≡ 0)
ends_by before rules used n zero x e z c u =
    let f : x.left ≡ waiting_of x.layout = ap (λ (y : CheckLeft). y.left) e ∙ sym (ap (λ (y : CheckLeft). waiting_of y.layout) e) in
    let r : waiting_of x.layout ≡ 0 = ⊎_elim
    (λ (q : (check_run n (rules_of rules used) (halo_of rules used) before).done ≡ n). let o : x.done ≡ n = ap (λ (y : CheckLeft). y.done) e ∙ q in omega (arith, c))
    (λ (q : waiting_of (check_run n (rules_of rules used) (halo_of rules used) before).layout ≡ 0). ap (λ (y : CheckLeft). waiting_of y.layout) e ∙ q)
    (run_over n (rules_of rules used) (halo_of rules used) before (sym (ap (λ (y : CheckLeft). y.number) e) ∙ z)) in
    (f ∙ r, r)
ends_by before rules used n (suc t) x e z c u = absurd (let o : suc t ≡ 0 = sym (ap (λ (y : CheckLeft). y.number) e) ∙ z in omega arith)

-- a check that is accepted and told to do as many pieces as wait ends with nothing waiting
pub check_ends : {before after : Layout} {work rules zeros : List ℕ} {used n place done left : ℕ} → Checked before work rules used n 0 place done left after zeros → waiting_of before ≤ n → (left ≡ 0) × (waiting_of after ≡ 0)
check_ends {before} {rules = rules} {used = used} {n = n} C u = ends_by before rules used n C.tested _ C.leaves refl (check_counts C) u

-- ---- enough room
-- the room has a tile for every square of the window
abbrev pub Roomy : Layout → Type 0
Roomy l = width l.material * height l.material ≤ room l

marks_fit : (l : Layout) {ws : List ℕ} → Roomy l → Marks l.material ws → (q : Picture) → leb (length (tiles (width ws) (height ws) q)) (room l) ≡ true
marks_fit l {ws} u M q =
    let e : width ws * height ws ≡ width l.material * height l.material = (λ i. M.wide i * M.tall i) in
    le-leb (length (tiles (width ws) (height ws) q)) (room l) (omega (arith, u, e, tiles_few (width ws) (height ws) q))

module _ {rules : List ℕ} {used : ℕ} where
  roomy_fits : {l : Layout} → Fit l rules used → Roomy l → (bx by : ℕ) → piece_fits l (rules_of rules used) (halo_of rules used) bx by ≡ true
  unfolding piece_fits
  roomy_fits {l} F u bx by =
      and_both (leb (length (tiles (width l.errors) (height l.errors) (piece_errors l (rules_of rules used) (halo_of rules used) bx by))) (room l)) (leb (length (tiles (width l.waiting) (height l.waiting) (piece_waiting l bx by))) (room l))
      (marks_fit l u F.tables.errors (piece_errors l (rules_of rules used) (halo_of rules used) bx by)) (marks_fit l u F.tables.waiting (piece_waiting l bx by))

  turn_roomy : (l : Layout) (b : Option Block) (f : Bool) (next : Layout → Run) → Fit l rules used → Roomy l → b ≡ lowest_of l → fits_block l (rules_of rules used) (halo_of rules used) b ≡ f
      → ((m : Layout) → Fit m rules used → Roomy m → (next m).number ≡ 0) → (turn b f l (next (after_block l (rules_of rules used) (halo_of rules used) b))).number ≡ 0
  turn_roomy l None f next F u e g ih = refl
  turn_roomy l (Some b) true next F u e g ih = ih (checked_piece l (rules_of rules used) (halo_of rules used) b.x b.y) (piece_fit (record { fit = F; lowest = e; fits = g })) u
  turn_roomy l (Some b) false next F u e g ih = absurd (true≢false (sym (roomy_fits F u b.x b.y) ∙ g))

  run_roomy : (n : ℕ) (l : Layout) → Fit l rules used → Roomy l → (check_run n (rules_of rules used) (halo_of rules used) l).number ≡ 0
  unfolding check_run
  run_roomy zero l F u = refl
  run_roomy (suc n) l F u =
      turn_roomy l (lowest_of l) (fits_block l (rules_of rules used) (halo_of rules used) (lowest_of l)) (check_run n (rules_of rules used) (halo_of rules used)) F u refl refl (run_roomy n)

  -- then the number of check is that of its tests
  number_by : (before : Layout) (work : List ℕ) (n t : ℕ) → Lowest (check_refusals before work rules used) t → Roomy before → (left_by before rules used n t).number ≡ t
  number_by before work n zero p u = run_roomy n before (passed_fit {work = work} p).0 u
  number_by before work n (suc t) p u = refl

tested_few : (before : Layout) (work rules : List ℕ) (used t : ℕ) → Lowest (check_refusals before work rules used) t → t ≤ 4
tested_few before work rules used t (inl p) = omega (arith, p.1)
tested_few before work rules used t (inr (_, inl p)) = omega (arith, p.1)
tested_few before work rules used t (inr (_, inr (_, inl p))) = omega (arith, p.1)
tested_few before work rules used t (inr (_, inr (_, inr (_, p)))) = omega arith

-- a check with room for a tile for every square of the window does not answer 7
pub room_enough : {before after : Layout} {work rules zeros : List ℕ} {used n answer place done left : ℕ} → Checked before work rules used n answer place done left after zeros → Roomy before → answer ≡ 7 → ⊥
room_enough {before} {work = work} {rules = rules} {used = used} {n = n} C u e =
    let a = ap (λ (x : CheckLeft). x.number) C.leaves ∙ number_by before work n C.tested C.number u in
    omega (arith, e, a, tested_few before work rules used C.tested C.number)

-- ---- enough of both
-- in a history, a check with a working room of the right length, told to do as many pieces as wait and with room, is accepted, does each of them, and leaves nothing waiting and the table of the full check's marks
pub check_finishes : {rules : List ℕ} {used w h t : ℕ} {l after : Layout} {d s : ℕ} {work zeros : List ℕ} {n answer place done left : ℕ} → History rules used w h t l d s
    → Checked l work rules used n answer place done left after zeros → length work ≡ length l.material → waiting_of l ≤ n → w * h ≤ room l
    → (answer ≡ 0) × (done ≡ waiting_of l) × (left ≡ 0) × (waiting_of after ≡ 0) × (after.errors ≡ table_like after.errors (full_marks after rules used))
check_finishes {rules} {used} {w} {h} {l = l} {after} {work = work} {n = n} {place = place} {done = done} {left = left} H C e u v =
    let F = history_fit H in
    let z = history_size H in
    let R : Roomy l = subst (λ (m : ℕ). m ≤ room l) (λ i. sym z.0 i * sym z.1 i) v in
    let o : C.tested ≡ 0 = lowest_once (check_refusals l work rules used) C.number (inr (record { tables = record { tables = F.lengths.tables; working = e }; list = F.lengths.list }, inr (F.tables, inr (F.sound, refl)))) in
    let a = ap (λ (x : CheckLeft). x.number) C.leaves ∙ (number_by l work n C.tested C.number R ∙ o) in
    let q = ends_by l rules used n C.tested _ C.leaves a (check_counts C) u in
    (a, omega (arith, check_counts C, q.1), q.0, q.1, ended_list_is_full (then_checked H C) q.1)
