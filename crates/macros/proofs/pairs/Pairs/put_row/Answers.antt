-- `put_row`. Each turn puts the rule of one type 2, if it is in the set, behind those so far.
use Rattle.macros.proofs.Puts.{put_start, put_more, turn_room, cell_room, cell_put, cell_skip}
use Rattle.macros.specs.Macros.{cell, row}
use Rattle.rules.specs.Words.{rule_words}
use Rattle.std.proofs.lemmas.List.Edits.{sets}
use Prim.Native.Nat.{◌*◌}
use native.Mathlib.Omega.{arith}
use mathlib.Core.Path.{sym, ◌∙◌, ap}
use Rattle.macros.proofs.pairs.Pairs.put_row.Goals.{then-member, else-member}
use Rattle.macros.proofs.pairs.Pairs.put_row.Goals as goal

pub loop-b-init : goal.loop-b-init
unfolding row
loop-b-init c = put_start (cell c.args.self.second c.args.self.made c.args.a) c.args.n c.args.list.now

pub put_rule-requires : goal.put_rule-requires
unfolding row
put_rule-requires c =
    let a = c.args in
    let room = turn_room (cell a.self.second a.self.made a.a) c.loop-b.b a.self.t (omega (arith, c.loop-b-test)) c.requires c.loop-b.invariant in
    cell_room a.self.second a.self.made a.a c.loop-b.b c.loop-b.k c.loop-b.list (sym c.member.ensures ∙ c.if-member.true) room

pub overflow_add-k : goal.overflow_add-k
unfolding row
overflow_add-k c =
    let a = c.args in
    let room = turn_room (cell a.self.second a.self.made a.a) c.loop-b.b a.self.t (omega (arith, c.loop-b-test)) c.requires c.loop-b.invariant in
    let one = cell_room a.self.second a.self.made a.a c.loop-b.b c.loop-b.k c.loop-b.list (sym c.member.ensures ∙ c.if-member.true) room in
    omega arith

pub loop-b-preserved : goal.loop-b-preserved
unfolding row
loop-b-preserved c =
    let p = c.args.self in
    elim c.if-member.branch [
      | then-member w ↦
          rw (w.k-is, w.list-is)
          (put_more (cell p.second p.made c.args.a) c.loop-b.b c.loop-b.invariant
          (cell_put p.second p.made c.args.a c.loop-b.b (sym c.member.ensures ∙ w.if-member.true)
          (w.put_rule.ensures ∙ ap (λ r. sets c.loop-b.list (8 * c.loop-b.k) (rule_words r)) w.rule.ensures)))
      | else-member w ↦
          rw (w.k-is, w.list-is)
          (put_more (cell p.second p.made c.args.a) c.loop-b.b c.loop-b.invariant
          (cell_skip p.second p.made c.args.a c.loop-b.b c.loop-b.k c.loop-b.list (sym c.member.ensures ∙ w.if-member.false)))
    ]
