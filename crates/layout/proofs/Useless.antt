-- Five useless builds, each refuted: at one small drawing, what the build answers or leaves does not meet the call's statement.
-- The drawing is sound, so that the calls must accept it, and their one outcome there is computed.
use Prim.Native.Nat.{ℕ, zero, suc, ◌≤◌, ◌<◌}
use native.Mathlib.Omega.{arith}
use mathlib.Core.Path.{◌≡◌, refl, sym, ◌∙◌, ap, subst}
use mathlib.Core.Logic.{inr}
use mathlib.Core.List.{List, [], ◌∷◌}
use lib.ListN.{length, replicate}
use Rattle.plane.specs.declared.tile.Area.{Area}
use Rattle.plane.specs.Area.{AreaIn, squares_in, tiles_in}
use Rattle.plane.specs.Picture.{area}
use Rattle.plane.specs.Refusal.{Lowest, if_done, lowest_once}
use Rattle.plane.specs.Words.{count, kinds, picture_of, InRange}
use Rattle.tables.specs.Like.{table_like}
use Rattle.rules.specs.Forbid.{forbidden}
use Rattle.rules.specs.Vetting.{AllSound, ListLength}
use Rattle.rules.specs.Words.{words_of, rules_of, halo_of, sound_at}
use Rattle.piece.specs.Remark.{full_mark}
use Rattle.sweep.specs.Run.{check_run, CheckLeft, ran_check}
use Rattle.checker.specs.Check.{CheckLength, Checked, check_refusals, refused_check}
use Rattle.drawing.specs.Create.{Created, create_refusals, fresh}
use Rattle.sheet.specs.Layout.{Layout, lent, OneLength, RuleLength, SoundLayout, WorkLength}
use Rattle.drawing.specs.Paint.{BothFit, Painted, paint_refusals}
use Rattle.sheet.specs.Report.{Findings, Reported, report_refusals, settled}
use Rattle.drawing.proofs.Creates.{created_done}
use Rattle.drawing.proofs.Stays.{create_makes, painted_sound}
use Rattle.checker.proofs.CheckStays.{check_keeps}
use Rattle.layout.specs.Worked.{checked, drawn, wide}

-- ---- the drawing
-- a window 40 by 1, and a bar one square wide in its first piece and in its third
abbrev pub window : Area
window = area 0 0 40 1

abbrev pub bar : Area
bar = area 0 0 1 1

abbrev pub far : Area
far = area 35 0 36 1

-- both are painted, and wait
unfoldable pub thin : Layout
unfolding drawn
thin = drawn (record { w = 40; h = 1; t = 2; room = 5; paints = (bar, 1) ∷ (far, 1) ∷ [] })

-- a slice with room for five tiles
abbrev pub slice : List ℕ
slice = replicate 49 0

-- "wide" as the words of its one rule: (1,0) and (36,0) are errors
unfoldable pub rules : List ℕ
unfolding words_of wide
rules = words_of wide

-- check n on a layout: what it answers and leaves
unfoldable pub after_check : ℕ → Layout → CheckLeft
unfolding thin rules checked forbidden
after_check n l = ran_check (check_run n (rules_of rules 1) (halo_of rules 1) l)

-- ---- it is sound
lengths : OneLength (lent slice slice slice)
lengths = record { material = record { words = refl; least = omega arith; most = omega arith }; errors = refl; waiting = refl }

in_range : InRange 40 1 2
in_range = record { wide = omega arith; wide_most = omega arith; tall = omega arith; tall_most = omega arith; two = omega arith; sixteen = omega arith }

fresh_sound : SoundLayout (fresh 5 40 1 2)
fresh_sound = create_makes (created_done {before = lent slice slice slice} lengths in_range refl refl refl refl)

bar_fits : BothFit (fresh 5 40 1 2) bar 1
unfolding drawn
bar_fits = record { material = omega arith; waiting = omega arith }

thin_sound : SoundLayout thin
unfolding thin
thin_sound = painted_sound far {kind = 1} (painted_sound bar {kind = 1} fresh_sound (omega arith) bar_fits) (omega arith) (record { material = omega arith; waiting = omega arith })

-- ---- the calls accept it
rules_long : ListLength (length rules) 1
unfolding rules
rules_long = record { words = refl; most = omega arith; room = omega arith }

rules_sound : AllSound rules 1 2
unfolding rules sound_at
rules_sound zero u = refl
rules_sound (suc i) u = absurd (omega arith)

in_window : (left right : ℕ) → left < right → right ≤ 40 → AreaIn 40 1 (area left 0 right 1)
in_window left right u v = record { some_x = u; some_y = omega arith; in_x = v; in_y = omega arith }

bar_accepted : Lowest (paint_refusals (fresh 5 40 1 2) slice bar 1) 0
unfolding drawn
bar_accepted =
    let L : WorkLength (fresh 5 40 1 2) slice = record { tables = fresh_sound.lengths; working = refl } in
    inr (L, inr (fresh_sound.tables, inr (omega arith, inr (in_window 0 1 (omega arith) (omega arith), inr (bar_fits, refl)))))

report_accepted : Lowest (report_refusals thin rules 1 window slice) 0
unfolding thin tiles_in
report_accepted =
    let L : RuleLength thin rules 1 = record { tables = thin_sound.lengths; list = rules_long } in
    inr (L, inr (thin_sound.tables, inr (rules_sound, inr (in_window 0 40 (omega arith) (omega arith), inr (omega arith, refl)))))

check_accepted : (l : Layout) → SoundLayout l → length slice ≡ length l.material → 2 ≡ kinds l.material → Lowest (check_refusals l slice rules 1) 0
check_accepted l S e k =
    let L : CheckLength l slice rules 1 = record { tables = record { tables = S.lengths; working = e }; list = rules_long } in
    inr (L, inr (S.tables, inr (subst (λ (t : ℕ). AllSound rules 1 t) k rules_sound, refl)))

thin_accepted : Lowest (check_refusals thin slice rules 1) 0
unfolding thin
thin_accepted = check_accepted thin thin_sound refl refl

-- ---- what check 1 does to it, whoever wrote it
check_is : (l : Layout) {n place done left : ℕ} {after : Layout} {zeros : List ℕ} → Lowest (check_refusals l slice rules 1) 0
    → Checked l slice rules 1 1 n place done left after zeros → record { number = n; done = done; left = left; layout = after } ≡ after_check 1 l
unfolding after_check
check_is l A C =
    C.leaves ∙ ap {B = CheckLeft} (λ (m : ℕ). if_done m (ran_check (check_run 1 (rules_of rules 1) (halo_of rules 1) l)) (refused_check m l)) (lowest_once (check_refusals l slice rules 1) C.number A)

-- the layout that it leaves
unfoldable pub once : Layout
unfolding after_check
once = (after_check 1 thin).layout

once_accepted : Lowest (check_refusals once slice rules 1) 0
unfolding once
once_accepted =
    let C : Checked thin slice rules 1 1 0 0 1 1 once slice = record { tested = 0; number = thin_accepted; leaves = refl; lowest = refl; zero = refl } in
    check_accepted once (check_keeps C thin_sound) refl refl

module _ {n place done left : ℕ} {after : Layout} {zeros : List ℕ} where
  -- the first piece: one done, one left, and then errors and waiting have three tiles each
  first_check : Checked thin slice rules 1 1 n place done left after zeros → (n ≡ 0) × (done ≡ 1) × (left ≡ 1) × (count after.errors ≡ 3) × (count after.waiting ≡ 3)
  unfolding after_check
  first_check C =
      let e = check_is thin thin_accepted C in
      (ap (λ (x : CheckLeft). x.number) e, ap (λ (x : CheckLeft). x.done) e, ap (λ (x : CheckLeft). x.left) e, ap (λ (x : CheckLeft). count x.layout.errors) e, ap (λ (x : CheckLeft). count x.layout.waiting) e)

  -- the other piece: then errors have five
  second_check : Checked once slice rules 1 1 n place done left after zeros → count after.errors ≡ 5
  unfolding once
  second_check C = ap (λ (x : CheckLeft). count x.layout.errors) (check_is once once_accepted C)

-- ---- one that always refuses: each of the four calls has an input that it must accept
never : {n : ℕ} → suc n ≡ 0 → ⊥
never e = omega arith

pub create_refused : {n : ℕ} {after : Layout} → Created (lent slice slice slice) 40 1 2 (suc n) after → ⊥
create_refused P = never (lowest_once (create_refusals (lent slice slice slice) 40 1 2) P.outcome.number (inr (lengths, inr (in_range, refl))))

pub paint_refused : {n : ℕ} {after : Layout} {zeros : List ℕ} → Painted (fresh 5 40 1 2) slice bar 1 (suc n) after zeros → ⊥
paint_refused P = never (lowest_once (paint_refusals (fresh 5 40 1 2) slice bar 1) P.outcome.number bar_accepted)

pub check_refused : {n place done left : ℕ} {after : Layout} {zeros : List ℕ} → Checked thin slice rules 1 1 (suc n) place done left after zeros → ⊥
check_refused C = never (first_check C).0

pub report_refused : {n place : ℕ} {found : Findings} → Reported thin rules 1 window slice (suc n) place found → ⊥
report_refused R = never (lowest_once (report_refusals thin rules 1 window slice) R.outcome.number report_accepted)

-- ---- one that always says settled with no errors
-- what it reports
abbrev pub all_good : List ℕ → Findings
all_good out = record { settled = 1; squares = 0; tiles = 0; slice = out }

-- while the bars wait, the window is not settled
pub always_settled : {place : ℕ} {out : List ℕ} → Reported thin rules 1 window out 0 place (all_good out) → ⊥
unfolding thin rules halo_of settled
always_settled R = never (ap (λ (f : Findings). f.settled) R.outcome.leaves)

-- when both pieces are done, it has two errors
pub always_clear : {place : ℕ} {out : List ℕ} → Reported (after_check 2 thin).layout rules 1 window out 0 place (all_good out) → ⊥
unfolding after_check squares_in
always_clear R = never (sym (ap (λ (f : Findings). f.squares) R.outcome.leaves))

-- ---- one whose check does nothing: the layout stays, whatever it answers
pub check_does_nothing : {n place done left : ℕ} {zeros : List ℕ} → Checked thin slice rules 1 1 n place done left thin zeros → ⊥
unfolding thin
check_does_nothing C = omega (arith, (first_check C).4)

-- ---- one that marks the window at its first piece, and then only counts down
-- the errors of the full check, as a table
abbrev pub full : List ℕ
full = table_like thin.errors (full_mark 40 1 (picture_of thin.material) wide)

-- all marks at the first piece are too many: (36,0) is farther than the halo from it
pub marks_window : {n place done left : ℕ} {after : Layout} {zeros : List ℕ} → Checked thin slice rules 1 1 n place done left after zeros → after.errors ≡ full → ⊥
unfolding thin wide forbidden
marks_window C e = let five : count full ≡ 5 = refl in omega (arith, (first_check C).3, ap count e)

-- no new mark at the second is too few
pub counts_down : {n place done left : ℕ} {after : Layout} {zeros : List ℕ} → Checked once slice rules 1 1 n place done left after zeros → after.errors ≡ once.errors → ⊥
unfolding once
counts_down C e = let three : count once.errors ≡ 3 = refl in omega (arith, second_check C, ap count e)

-- ---- one that invents the counts: one piece is done and one is left, and no other counts will do
pub counts_are : {n place done left : ℕ} {after : Layout} {zeros : List ℕ} → Checked thin slice rules 1 1 n place done left after zeros → (done ≡ 1) × (left ≡ 1)
counts_are C = ((first_check C).1, (first_check C).2)
