-- `add_width`. The macro's outcome is the model's, and its rules are sound.
use mathlib.Core.Path.{sym, ◌∙◌}
use Rattle.std.proofs.lemmas.Result.{err_from_is_err_and}
use Rattle.plane.specs.Words.{kinds}
use Rattle.plane.proofs.Lowests.{refusal_positive}
use Rattle.desk.proofs.Rulings.{is_late, is_early, late_kept, macro_kept, macro_no, macro_late, macro_added}
use Rattle.desk.proofs.MadeSound.{width_made}
use Rattle.desk.proofs.state.Desk.add_width.Goals as goal

pub returns-in_err-used : goal.returns-in_err-used
returns-in_err-used c = λ r line.
    let ready = rw (← c.self.view_is) at r in
    let e = err_from_is_err_and c.from_residual.result c.from_residual.ensures.1 in
    rw (← c.self.view_is, e.1, e.2) (macro_no c.self.inside c.self.invariant ready line c.in_err-used.ensures (refusal_positive _))

pub invariant_of-self-in_err-may_rule : goal.invariant_of-self-in_err-may_rule
invariant_of-self-in_err-may_rule c = late_kept c.self.inside c.self.invariant c.in_ok-used.ensures c.width.auto.rules

pub returns-in_err-may_rule : goal.returns-in_err-may_rule
returns-in_err-may_rule c = λ r line.
    let ready = rw (← c.self.view_is) at r in
    let late = is_late c.self.inside.painted (sym c.may_rule.ensures ∙ c.in_err-may_rule.was) in
    let e = err_from_is_err_and c.from_residual-in_err-may_rule.result c.from_residual-in_err-may_rule.ensures.1 in
    rw (← c.self.view_is, e.1, e.2, late.1) (macro_late c.self.inside c.self.invariant ready line c.in_ok-used.ensures late.0)

pub invariant_of-self-2 : goal.invariant_of-self-2
invariant_of-self-2 c = let a = c.args in macro_kept c.self.inside c.self.invariant c.in_ok-used.ensures c.width.auto.rules (width_made (kinds c.self.inside.material) a.set a.d a.reason)

pub returns : goal.returns
returns c = λ r line.
    let ready = rw (← c.self.view_is) at r in
    let early = is_early c.self.inside.painted (sym c.may_rule.ensures ∙ c.in_ok-may_rule.was) in
    rw (← c.self.view_is) (macro_added c.self.inside c.self.invariant ready line c.in_ok-used.ensures early)
