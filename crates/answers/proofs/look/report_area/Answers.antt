-- `report_area`. Report's findings, or the number of its refusal: a desk that is kept leaves none but 6.
use Prim.Native.Nat.{ℕ}
use mathlib.Core.Bool.{Bool, true, false, cond}
use mathlib.Core.Path.{◌≡◌, refl}
use mir.Val.{bool_byte}
use Rattle.std.proofs.lemmas.Result.{err_from_is_err_and}
use native.Mathlib.Omega.{arith}
use Rattle.answers.proofs.Looks.{mapped_err, mapped_ok, mapped_not, positive, report_none, report_found}
use Rattle.answers.proofs.look.report_area.Goals as goal

pub returns-in_err-found : goal.returns-in_err-found
returns-in_err-found c = λ r line.
    let ready = rw (← c.desk.view_is) at r in
    let e = err_from_is_err_and c.from_residual.result c.from_residual.ensures.1 in
    let q = mapped_err c.report.result c.map_err.result c.map_err.ensures.cases c.in_err-found.was in
    let u = positive c.report.result (mapped_not c.report.result c.map_err.result c.map_err.ensures.cases c.in_err-found.was) in
    rw (← c.desk.view_is, e.1, e.2) (report_none c.desk.inside c.args.a line c.desk.invariant ready refl q (omega (arith, q, u)) c.report.ensures).1

-- a truth value as a number
number_of : (b : Bool) → ◌≡◌ {A = ℕ} (bool_byte b) (cond b 1 0)
number_of true = refl
number_of false = refl

pub returns : goal.returns
returns c = λ r line.
    let ready = rw (← c.desk.view_is) at r in
    rw (← c.desk.view_is, c.from.ensures, number_of c.in_ok-found.found.settled)
    (report_found c.desk.inside c.args.a line c.desk.invariant ready refl c.report.result (mapped_ok c.report.result c.map_err.result c.map_err.ensures.cases c.in_ok-found.was) c.report.ensures)
