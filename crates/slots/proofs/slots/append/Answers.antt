-- All words of the tiles are put, by `append_done`.
use native.Mathlib.Omega.{arith}
use Rattle.slots.proofs.Stores.{append_done}
use Rattle.slots.proofs.slots.append.Goals as goal

pub returns : goal.returns
returns c = let I = c.loop-i.invariant in append_done I.0 (λ p u. I.1 p (omega (arith, c.loop-i-test.false))) I.2
