-- `row_shown`. Each turn puts one run more above the word.
use native.Mathlib.Omega.{arith}
use borrow.Author.Rules.{rules}
use Rattle.piece.proofs.Reading.{run_here, left_more, left_none}
use Rattle.piece.proofs.ShownRows.{shown_start, shown_more}
use Rattle.piece.proofs.shown.row_shown.Goals as goal

pub loop-run-init : goal.loop-run-init
loop-run-init c =
    let R = c.requires.0 in
    let o = c.of-run-items.ensures in
    rw c.into_iter-run-iterator.ensures.into_iter_gives
    (search rules, search rules, record { words = o.0; row = o.2; last = o.3; from = omega (arith, o.1); to = omega (arith, o.1, R.inside.some_x) }, rw o.1 (shown_start R.inside.some_y))

pub overflow_sub-run : goal.overflow_sub-run
overflow_sub-run c =
    let L = c.loop-run.invariant.2 in
    let r = run_here L c.in-Some.ensures.steps.0 in
    omega (arith, r.start, L.from)

pub overflow_sub-run-in-loop-run : goal.overflow_sub-run-in-loop-run
overflow_sub-run-in-loop-run c =
    let L = c.loop-run.invariant.2 in
    let r = run_here L c.in-Some.ensures.steps.0 in
    omega (arith, r.some, L.from)

pub with_run-word-requires : goal.with_run-word-requires
with_run-word-requires c =
    let L = c.loop-run.invariant.2 in
    let r = run_here L c.in-Some.ensures.steps.0 in
    (rw r.start c.loop-run.invariant.3.small, omega (arith, r.some, r.start), omega (arith, r.most, c.requires.0.columns))

pub loop-run-preserved : goal.loop-run-preserved
loop-run-preserved c =
    let L = c.loop-run.invariant.2 in
    let r = run_here L c.in-Some.ensures.steps.0 in
    (search rules, search rules, left_more L c.in-Some.ensures.steps, rw c.in-Some.ensures.steps.2 (shown_more c.requires.0 r c.min-top.ensures L.from c.loop-run.invariant.3 c.with_run-word.ensures))

pub returns : goal.returns
returns c = rw (left_none c.loop-run.invariant.2 c.in-None.ensures.steps) at c.loop-run.invariant.3
