-- `cut_row`. Each turn draws the squares of one run more.
use native.Mathlib.Omega.{arith}
use borrow.Author.Rules.{rules}
use Rattle.piece.proofs.Cuts.{row_start, row_more}
use Rattle.piece.proofs.Reading.{run_here, left_more, left_none}
use Rattle.piece.proofs.cut.cut_row.Goals as goal

pub loop-run-init : goal.loop-run-init
loop-run-init c =
    let C = c.requires.1 in
    let o = c.of-run-items.ensures in
    rw c.into_iter-run-iterator.ensures.into_iter_gives
    (search rules, search rules, record { words = o.0; row = o.2; last = o.3; from = omega (arith, o.1); to = omega (arith, o.1, C.wide) }, rw o.1 (row_start C.tall))

pub place-requires : goal.place-requires
place-requires c =
    let L = c.loop-run.invariant.2 in
    let r = run_here L c.in-Some.ensures.steps.0 in
    omega (arith, r.start, L.from, c.requires.1.left_of)

pub place-requires-in-loop-run : goal.place-requires-in-loop-run
place-requires-in-loop-run c =
    let L = c.loop-run.invariant.2 in
    let r = run_here L c.in-Some.ensures.steps.0 in
    omega (arith, r.some, L.from, c.requires.1.left_of)

pub fill-requires : goal.fill-requires
fill-requires c =
    let L = c.loop-run.invariant.2 in
    let C = c.requires.1 in
    let r = run_here L c.in-Some.ensures.steps.0 in
    (omega (arith, r.start, r.some), omega (arith, r.most, C.right_of, C.high, C.tall, c.loop-run.invariant.3.drawn.long))

pub loop-run-preserved : goal.loop-run-preserved
loop-run-preserved c =
    let L = c.loop-run.invariant.2 in
    let r = run_here L c.in-Some.ensures.steps.0 in (
      search rules,
      search rules,
      left_more L c.in-Some.ensures.steps,
      rw c.in-Some.ensures.steps.2 (row_more c.requires.1 r c.min-top.ensures L.from c.told-kinds c.loop-run.invariant.3 c.place-at.ensures c.place.ensures c.place-in-loop-run.ensures c.fill.ensures),
    )

pub returns : goal.returns
returns c = rw (left_none c.loop-run.invariant.2 c.in-None.ensures.steps) at c.loop-run.invariant.3
