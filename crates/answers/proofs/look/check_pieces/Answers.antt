-- `check_pieces`. What check answers and leaves is the model's.
use mathlib.Core.Path.{◌∙◌}
use Rattle.answers.proofs.Looks.{check_comes, check_kept}
use Rattle.answers.proofs.look.check_pieces.Goals as goal

pub invariant_of-desk : goal.invariant_of-desk
invariant_of-desk c =
    let K = c.desk.invariant in
    check_kept c.desk.inside _ c.check.result K (record { material = K.tables.material; errors = c.check.auto.errors ∙ K.tables.errors; waiting = c.check.auto.waiting ∙ K.tables.waiting }) c.check.auto.work c.check.ensures

pub returns : goal.returns
returns c = λ r.
    let ready = rw (← c.desk.view_is) at r in
    rw (← c.desk.view_is, c.check_reply.ensures, ← c.from.ensures) (check_comes c.desk.inside c.desk.invariant ready _ c.check.result c.check.ensures)
