-- What the tests refuse check refuses; a layout that passes them is run.
use Rattle.std.proofs.lemmas.Result.{err_from_is_err_and}
use Rattle.checker.proofs.Checkings.{check_refused}
use Rattle.checker.proofs.check.check_tables.Goals as goal

pub returns-in_err-lent_tests-clause-checked : goal.returns-in_err-lent_tests-clause-checked
returns-in_err-lent_tests-clause-checked c =
    let p = err_from_is_err_and c.from_residual.result c.from_residual.ensures.1 in
    rw (p.1, p.2) (check_refused c.lent_tests.ensures _ c.in_err-lent_tests.was)
