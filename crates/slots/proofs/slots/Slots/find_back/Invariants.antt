use Prim.Native.Nat.{ℕ, ◌≤◌, ◌<◌}
use Rattle.plane.specs.Strips.{Holds}
use Rattle.plane.specs.Words.{tile_of}
use Rattle.slots.proofs.slots.Slots.find_back.Given as goal

abbrev pub invariant-loop-j : goal.invariant-loop-j
invariant-loop-j l = (k : ℕ) → l.j ≤ k → k < l.i → Holds (tile_of l.self.words.now k) l.x l.y → ⊥
