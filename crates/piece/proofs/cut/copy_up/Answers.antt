-- `copy_up`. Each turn copies one row more.
use native.Mathlib.Omega.{arith}
use Rattle.piece.proofs.Drawings.{drawn_none, copies_more}
use Rattle.piece.proofs.cut.copy_up.Goals as goal

pub loop-y-init : goal.loop-y-init
loop-y-init c = drawn_none (λ x y i. omega (arith, i.low, i.high))

pub loop-y-preserved : goal.loop-y-preserved
loop-y-preserved c = let p = c.requires in copies_more (omega arith) (omega arith) p.3 c.loop-y.invariant c.copy_row.ensures
