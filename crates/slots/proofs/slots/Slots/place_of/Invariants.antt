use Prim.Native.Nat.{◌-◌}
use Rattle.slots.proofs.Places.{PlaceIn}
use Rattle.slots.proofs.slots.Slots.place_of.Given as goal

abbrev pub invariant-loop-i : goal.invariant-loop-i
invariant-loop-i l = PlaceIn l.self.words.now l.self.count l.t l.i l.j

abbrev pub decreases-loop-i : goal.decreases-loop-i
decreases-loop-i l = l.j - l.i
