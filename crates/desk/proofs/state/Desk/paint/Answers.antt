-- `paint`. What paint answers and leaves is the model's paint.
use mathlib.Core.Path.{◌∙◌}
use Rattle.std.proofs.lemmas.Result.{err_from_is_err_and}
use Rattle.plane.proofs.Lowests.{refusal_positive}
use Rattle.desk.proofs.Draws.{paint_kept, paint_no, paint_ok}
use Rattle.desk.proofs.state.Desk.paint.Goals as goal

pub returns-in_err-paint : goal.returns-in_err-paint
returns-in_err-paint c = λ r line.
    let e = err_from_is_err_and c.from_residual.result c.from_residual.ensures.1 in
    let ready = rw (← c.self.view_is) at r in
    rw (← c.self.view_is, e.1, e.2) (paint_no c.self.inside c.self.invariant c.args.kind c.args.a c.paint.auto.work ready line c.in_err-paint.ensures (refusal_positive _))

pub invariant_of-self-2 : goal.invariant_of-self-2
invariant_of-self-2 c =
    let K = c.self.invariant in
    paint_kept c.self.inside K c.args.kind c.args.a c.paint.auto.work _ c.in_ok-paint.ensures
    (record { material = c.paint.auto.material ∙ K.tables.material; errors = K.tables.errors; waiting = c.paint.auto.waiting ∙ K.tables.waiting })

pub returns : goal.returns
returns c = λ r line.
    let ready = rw (← c.self.view_is) at r in
    rw (← c.self.view_is) (paint_ok c.self.inside c.self.invariant c.args.kind c.args.a c.paint.auto.work ready line c.in_ok-paint.ensures)
