-- By halves: `PlaceIn`, the tiles below i come before t and tile j does not.
use native.Mathlib.Omega.{arith}
use Rattle.slots.proofs.Places.{place_up}
use Rattle.slots.proofs.slots.Slots.place_of.Goals as goal

pub loop-i-preserved-then-precedes : goal.loop-i-preserved-then-precedes
loop-i-preserved-then-precedes c = place_up c.requires.in_order_to c.loop-i.invariant (omega (arith, c.loop-i-test.true)) (rw c.nth.ensures at c.if-precedes.ensures)
