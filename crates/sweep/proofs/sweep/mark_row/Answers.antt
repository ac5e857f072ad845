-- The pieces so far are the beginning of every run (`SoFar`). A column that does not wait, one done, a piece without room and the row's end are one law each.
use Rattle.sweep.proofs.Turns.{waiting_plane}
use Rattle.sweep.proofs.RowSweep.{row_block, row_start, row_idle, row_ends, row_full, row_more, next_marks}
use mathlib.Core.Bool.{not}
use mathlib.Core.Path.{refl, ◌∙◌, ap}
use native.Mathlib.Omega.{arith}
use Rattle.sweep.proofs.sweep.mark_row.Goals.{then-columns-from+else-is_none, else-columns-from}
use Rattle.sweep.proofs.sweep.mark_row.Goals as goal

pub row_of-columns-requires : goal.row_of-columns-requires
row_of-columns-requires c = (waiting_plane c.requires.turn_in.fit, omega (arith, row_block c.requires.turn_in, c.from.ensures))

pub loop-x-init : goal.loop-x-init
loop-x-init c = (refl, row_start c.requires.turn_in)

pub remark-requires : goal.remark-requires
remark-requires c = next_marks c.requires.turn_in c.requires.waiting_bound (rw c.from.ensures at c.row_of-columns.ensures) c.loop-x.invariant.1 (omega arith) (rw c.from-in-loop-x.ensures at c.if-columns-from.true) (c.loop-x.auto.work ∙ c.requires.turn_in.working)

pub loop-x-preserved : goal.loop-x-preserved
loop-x-preserved c = elim c.if-columns-from.branch [
  | then-columns-from+else-is_none w ↦ rw (w.done-is, w.errors-is) (refl, row_more c.requires.turn_in c.requires.waiting_bound (rw c.from.ensures at c.row_of-columns.ensures) c.loop-x.invariant.1 (omega arith) (rw c.from-in-loop-x.ensures at w.if-columns-from.true) w.remark.ensures (omega arith) (w.is_none.ensures ∙ ap not w.if-is_none.false))
  | else-columns-from w ↦ rw (w.done-is, w.errors-is) (refl, row_idle c.requires.turn_in c.requires.waiting_bound (rw c.from.ensures at c.row_of-columns.ensures) c.loop-x.invariant.1 (omega arith) (rw c.from-in-loop-x.ensures at w.if-columns-from.false))
]

pub returns-then-is_none : goal.returns-then-is_none
returns-then-is_none c = rw c.loop-x.invariant.0 (row_full c.requires.turn_in c.requires.waiting_bound (rw c.from.ensures at c.row_of-columns.ensures) c.loop-x.invariant.1 (omega arith) (rw c.from-in-loop-x.ensures at c.if-columns-from.true) c.remark.ensures (omega arith) (c.is_none.ensures ∙ ap not c.if-is_none.true))

pub returns-after-loop-x : goal.returns-after-loop-x
returns-after-loop-x c = rw c.loop-x.invariant.0 (row_ends c.requires.turn_in c.loop-x.invariant.1 (omega arith))
