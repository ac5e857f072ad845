-- `new_window`. What create answers and leaves is the model's new.
use mathlib.Core.Path.{◌∙◌}
use Rattle.std.proofs.lemmas.Result.{err_from_is_err_and}
use Rattle.plane.proofs.Lowests.{refusal_positive}
use Rattle.desk.proofs.Draws.{new_no, new_ok}
use Rattle.desk.proofs.state.Desk.new_window.Goals as goal

pub returns-in_err-create : goal.returns-in_err-create
returns-in_err-create c = λ line.
    let e = err_from_is_err_and c.from_residual.result c.from_residual.ensures.1 in
    rw (← c.self.view_is, e.1, e.2) (new_no c.self.inside c.self.invariant line c.args.w c.args.h c.args.t c.in_err-create.ensures (refusal_positive _)).1

pub invariant_of-self-2 : goal.invariant_of-self-2
invariant_of-self-2 c =
    let T = c.self.invariant.tables in
    (new_ok c.self.inside c.self.invariant 0 c.args.w c.args.h c.args.t c.in_ok-create.ensures
    (record { material = c.create.auto.material ∙ T.material; errors = c.create.auto.errors ∙ T.errors; waiting = c.create.auto.waiting ∙ T.waiting })).0

pub returns : goal.returns
returns c = λ line.
    let T = c.self.invariant.tables in
    rw (← c.self.view_is)
    (new_ok c.self.inside c.self.invariant line c.args.w c.args.h c.args.t c.in_ok-create.ensures
    (record { material = c.create.auto.material ∙ T.material; errors = c.create.auto.errors ∙ T.errors; waiting = c.create.auto.waiting ∙ T.waiting })).1
