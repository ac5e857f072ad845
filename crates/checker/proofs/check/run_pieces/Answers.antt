-- The run's promise, with the pieces that wait after it.
use Rattle.sweep.proofs.Turns.{waiting_plane}
use Rattle.checker.proofs.check.run_pieces.Goals as goal

pub waiting_pieces-requires : goal.waiting_pieces-requires
waiting_pieces-requires c = waiting_plane c.check_run-ran.ensures.ran.fit
