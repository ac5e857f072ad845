-- `mark_one`. Off the picture, or of an allowed type, nothing is marked; else the one square is.
use native.Mathlib.Omega.{arith}
use mathlib.Core.Path.{◌∙◌, sym, ap}
use borrow.Author.Rules.{rules}
use Rattle.rules.specs.Sets.{member}
use Rattle.edges.proofs.Marking.{one_none, one_set}
use Rattle.edges.proofs.edge.Picture.mark_one.Goals.{else-y-x-via-then-y-x+then-x-y-lt6724+else-not-member, else-y-x-via-then-y-x+else-x-y-lt6724, else-y-x-via-else-y-x}
use Rattle.edges.proofs.edge.Picture.mark_one.Goals as goal

pub returns-then-not-member : goal.returns-then-not-member
returns-then-not-member c = one_set _ _ _ _ (search rules) c.if-y-x.true c.if-x-y-lt6724.true (c.member.ensures ∙ ap (member c.args.allowed) c.kind.ensures.value) (search rules)

pub returns-else-y-x : goal.returns-else-y-x
returns-else-y-x c =
    one_none _ _ _ _ (search rules) (λ a b. elim c.else-y-x.branch [
      | else-y-x-via-then-y-x+then-x-y-lt6724+else-not-member w ↦ sym (w.member.ensures ∙ ap (member c.args.allowed) w.kind.ensures.value) ∙ w.if-not-member.false
      | else-y-x-via-then-y-x+else-x-y-lt6724 w ↦ absurd (let x = w.if-x-y-lt6724 in omega arith)
      | else-y-x-via-else-y-x w ↦ absurd (let x = w.if-y-x in omega arith)
    ])
