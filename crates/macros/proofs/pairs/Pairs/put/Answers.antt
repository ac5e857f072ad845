-- `put`. Each turn puts the row of one type 1, if it is in the set, behind those so far.
use Rattle.macros.proofs.Puts.{put_start, put_more, put_as, turn_room, row_is, row_skip}
use Rattle.macros.specs.Macros.{row_if, rows}
use lib.ListN.{length}
use native.Mathlib.Omega.{arith}
use mathlib.Core.Path.{sym, ◌∙◌, ap}
use Rattle.macros.proofs.pairs.Pairs.put.Goals.{then-member, else-member}
use Rattle.macros.proofs.pairs.Pairs.put.Goals as goal

pub loop-a-init : goal.loop-a-init
unfolding rows
loop-a-init c = let p = c.args.self in put_start (row_if p.t p.first p.second p.made) c.args.n c.args.list.now

pub put_row-k-requires : goal.put_row-k-requires
unfolding rows
put_row-k-requires c =
    let p = c.args.self in
    let room = turn_room (row_if p.t p.first p.second p.made) c.loop-a.a p.t (omega (arith, c.loop-a-test)) c.requires c.loop-a.invariant in
    let e = ap length (row_is p.t p.first p.second p.made c.loop-a.a (sym c.member.ensures ∙ c.if-member.true)) in
    omega arith

pub loop-a-preserved : goal.loop-a-preserved
unfolding rows
loop-a-preserved c =
    let p = c.args.self in
    elim c.if-member.branch [
      | then-member w ↦
          rw (w.k-is, w.list-is)
          (put_more (row_if p.t p.first p.second p.made) c.loop-a.a c.loop-a.invariant
          (put_as (row_is p.t p.first p.second p.made c.loop-a.a (sym c.member.ensures ∙ w.if-member.true)) w.put_row-k.ensures))
      | else-member w ↦
          rw (w.k-is, w.list-is)
          (put_more (row_if p.t p.first p.second p.made) c.loop-a.a c.loop-a.invariant
          (row_skip p.t p.first p.second p.made c.loop-a.a c.loop-a.k c.loop-a.list (sym c.member.ensures ∙ w.if-member.false)))
    ]
