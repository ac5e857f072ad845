-- Check's promise, whose values are narrow for at most 65535 turns, and its answer packed.
use Rattle.layout.proofs.Ranges.{check_narrow}
use native.Mathlib.Omega.{arith}
use Rattle.layout.proofs.c.layout_check.Goals as goal

pub pack_check-requires : goal.pack_check-requires
pack_check-requires c = (check_narrow (omega (arith, c.from-2.ensures)) c.check.ensures).0
