-- `with_run`. Powers of two up to 2^48 fit, and the larger one is taken less the smaller.
use lib.Pow.{pow_mono}
use native.Mathlib.Omega.{arith}
use Rattle.piece.proofs.shown.with_run.Goals as goal

pub overflow_sub-result : goal.overflow_sub-result
overflow_sub-result c = omega (arith, pow_mono {i = c.args.from} {j = c.args.to} c.requires.1, pow_mono {i = c.args.to} {j = 48} c.requires.2)
