use Prim.Native.Nat.{ℕ, ◌≤◌, ◌<◌}
use Rattle.plane.specs.Strips.{Holds}
use Rattle.plane.specs.Words.{tile_of}
use Rattle.slots.proofs.slots.Slots.find_on.Given as goal

abbrev pub invariant-loop-j : goal.invariant-loop-j
invariant-loop-j l = (k : ℕ) → l.i ≤ k → k < l.j → Holds (tile_of l.self.words.now k) l.x l.y → ⊥
