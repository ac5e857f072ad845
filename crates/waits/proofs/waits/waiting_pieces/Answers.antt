-- `waiting_pieces`. Each turn adds the waiting pieces of one row more, at most 256.
use Rattle.waits.proofs.Waited.{row_waiting, row_is, rows_none, rows_all}
use Rattle.plane.proofs.Counting.{sum_more}
use Rattle.plane.specs.Words.{width, height, picture_of}
use native.Mathlib.Omega.{arith}
use mathlib.Core.Path.{◌≡◌, sym, ◌∙◌}
use Prim.Native.Nat.{◌+◌, ◌/◌}
use Rattle.waits.proofs.waits.waiting_pieces.Goals as goal

pub loop-y-init : goal.loop-y-init
loop-y-init c = let t = c.args.t.now in (omega arith, sym (rows_none (width t) (height t) (picture_of t)))

pub loop-y-preserved : goal.loop-y-preserved
loop-y-preserved c =
    let t = c.args.t.now in
    let w : c.width.result ≡ width t = rw (← c.of-table.ensures) c.width.ensures.value in
    let r = row_is c.requires c.row_of.ensures (omega arith) c.count_waiting-sum.ensures.value in
    (omega arith, sum_more (row_waiting (width t) (height t) (picture_of t)) c.loop-y.y c.loop-y.invariant.1 r.0)

pub returns : goal.returns
returns c =
    let t = c.args.t.now in
    let h : c.height.result ≡ height t = rw (← c.of-table.ensures) c.height.ensures.value in
    let e : c.loop-y.y ≡ (height t + 15) / 16 = omega arith in
    ((rw e at c.loop-y.invariant.1) ∙ rows_all (width t) (height t) (picture_of t), omega (arith, c.requires.header.sizes.tall_most))
