-- What the calls leave is a table again: where they answer 0, and where they refuse a table.
use Prim.Native.Nat.{ℕ}
use native.Mathlib.Omega.{arith}
use mathlib.Core.Path.{sym, ◌∙◌, subst}
use mathlib.Core.List.{List}
use lib.ListN.{length}
use Rattle.std.specs.Prelude.{Result, Ok, Err}
use Rattle.plane.specs.declared.answer.Refusal.{Refusal}
use Rattle.plane.specs.declared.tile.Area.{Area}
use Rattle.plane.specs.Answers.{number, refusal_number}
use Rattle.plane.specs.Words.{IsTable, PictureTable, room_in}
use Rattle.paint.specs.Paint.{Blanked, PlanePainted, PlaneStamped, blank_refusals, paint_refusals, stamp_refusals}
use Rattle.tables.specs.Like.{painted_of, stamped_of, table_like}
use Rattle.plane.proofs.Lowests.{all_hold, left_as_is, refusal_positive}
use Rattle.tables.proofs.OneTile.{space_is_table}
use Rattle.tables.proofs.Whole.{as_picture, painted_table, stamped_table}

-- ---- the calls, where they answer 0
pub blank_table : {ws vs : List ℕ} {w h k : ℕ} → Blanked ws w h k 0 vs → PictureTable vs
blank_table {ws} {vs} {w} {h} {k} B =
    let g = all_hold 0 (blank_refusals ws w h k) (omega arith, (omega arith, tt)) B.outcome.number in
    as_picture (subst (λ (l : List ℕ). IsTable (room_in (length ws)) l) (sym B.outcome.leaves) (space_is_table g.0.least g.1.0))

pub paint_table : {ws vs work left : List ℕ} {a : Area} {k : ℕ} → PlanePainted ws a k work 0 vs left → PictureTable vs
paint_table {ws} {vs} {work} {left} {a} {k} B =
    let g = all_hold 0 (paint_refusals ws a k work) (omega arith, (omega arith, (omega arith, (omega arith, (omega arith, tt))))) B.outcome.number in
    as_picture (subst (λ (l : List ℕ). IsTable (room_in (length ws)) l) (sym B.outcome.leaves) (painted_table a k g.1.0 g.1.1.0 g.1.1.1.1.0))

pub stamp_table : {ws vs work left rows : List ℕ} {a : Area} → PlaneStamped ws a rows work 0 vs left → PictureTable vs
stamp_table {ws} {vs} {work} {left} {rows} {a} B =
    let g = all_hold 0 (stamp_refusals ws a rows work) (omega arith, (omega arith, (omega arith, (omega arith, tt)))) B.outcome.number in
    as_picture (subst (λ (l : List ℕ). IsTable (room_in (length ws)) l) (sym B.outcome.leaves) (stamped_table a rows g.1.0 g.1.1.1.0))

-- ---- whatever they answer, a table stays one
pub paint_again : {ws vs work left : List ℕ} {a : Area} {k : ℕ} (r : Result (Unit {0}) Refusal) → PlanePainted ws a k work (number r) vs left → PictureTable ws → PictureTable vs
paint_again (Ok x) B I = paint_table B
paint_again {ws} {a = a} {k = k} (Err why) B I = subst (λ (l : List ℕ). PictureTable l) (left_as_is (refusal_number why) (table_like ws (painted_of ws a k)) ws (refusal_positive why) ∙ sym B.outcome.leaves) I

pub stamp_again : {ws vs work left rows : List ℕ} {a : Area} (r : Result (Unit {0}) Refusal) → PlaneStamped ws a rows work (number r) vs left → PictureTable ws → PictureTable vs
stamp_again (Ok x) B I = stamp_table B
stamp_again {ws} {rows = rows} {a = a} (Err why) B I = subst (λ (l : List ℕ). PictureTable l) (left_as_is (refusal_number why) (table_like ws (stamped_of ws a rows)) ws (refusal_positive why) ∙ sym B.outcome.leaves) I
