-- `cut`. Each turn draws a row and the rows above it that are the same.
use native.Mathlib.Omega.{arith}
use Rattle.piece.proofs.Cuts.{near_cuttable, cut_start, cut_more, cut_end}
use Rattle.piece.proofs.cut.cut.Goals as goal

pub loop-y-init : goal.loop-y-init
loop-y-init c =
    let p = c.requires in
    let e = rw (c.width.ensures.value, c.height.ensures.value, c.of-table.ensures) at c.near_area-a.ensures in
    rw c.of-table.ensures (cut_start p.1 (near_cuttable p.2 p.3 p.4 e) p.0)

pub loop-y-preserved : goal.loop-y-preserved
loop-y-preserved c = cut_more c.loop-y.invariant c.seek-i.ensures.counted c.loop-y-test.true c.cut_row-top.ensures c.place-u1.ensures c.place-u2.ensures c.place.ensures c.place-in-loop-y.ensures c.copy_up.ensures

pub returns : goal.returns
returns c =
    let p = c.requires in
    let e = rw (c.width.ensures.value, c.height.ensures.value, c.of-table.ensures) at c.near_area-a.ensures in
    cut_end c.args.block.x c.args.block.y p.2 e p.0 (omega arith) (rw c.of-table.ensures at c.loop-y.invariant)
