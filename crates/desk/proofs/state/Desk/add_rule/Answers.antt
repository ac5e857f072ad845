-- `add_rule`. The four exits, in the order of their numbers: 4, 7, 8, and the rule put behind the used ones.
use native.Mathlib.Omega.{arith}
use mathlib.Core.Path.{sym, ◌∙◌}
use Rattle.std.proofs.lemmas.Result.{err_from_is_err_and}
use Rattle.desk.proofs.Rulings.{is_late, is_early, rule_bad, rule_late, rule_kept, rule_added}
use Rattle.desk.proofs.state.Desk.add_rule.Goals as goal

pub returns-then-not-is_sound : goal.returns-then-not-is_sound
returns-then-not-is_sound c = λ r line. rw (← c.self.view_is) (rule_bad c.self.inside c.args.r line _ (sym c.is_sound.ensures ∙ c.if-not-is_sound.true))

pub returns-in_err-may_rule : goal.returns-in_err-may_rule
returns-in_err-may_rule c = λ r line.
    let ok = sym c.is_sound.ensures ∙ c.if-not-is_sound.false in
    let late = is_late c.self.inside.painted (sym c.may_rule.ensures ∙ c.in_err-may_rule.was) in
    let e = err_from_is_err_and c.from_residual.result c.from_residual.ensures.1 in
    rw (← c.self.view_is, e.1, e.2, late.1) (rule_late c.self.inside c.args.r line _ ok (omega arith) late.0)

pub invariant_of-self : goal.invariant_of-self
invariant_of-self c = rule_kept c.self.inside c.args.r c.self.invariant (omega arith) c.put_rule.ensures (sym c.is_sound.ensures ∙ c.if-not-is_sound.false)

pub returns : goal.returns
returns c = λ r line.
    let ok = sym c.is_sound.ensures ∙ c.if-not-is_sound.false in
    let early = is_early c.self.inside.painted (sym c.may_rule.ensures ∙ c.in_ok-may_rule.was) in
    rw (← c.self.view_is) (rule_added c.self.inside c.args.r c.self.invariant (omega arith) c.put_rule.ensures line _ ok early)
