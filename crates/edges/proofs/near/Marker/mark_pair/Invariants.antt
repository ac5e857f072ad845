use Rattle.edges.specs.Near.{across_all}
use Rattle.edges.specs.Edge.{Marked}
use Rattle.edges.specs.Chains.{cell, cell_at}
use mathlib.Core.Path.{◌≡◌}
use Prim.Native.Nat.{◌-◌, ◌<◌, min}
use Rattle.edges.proofs.near.Marker.mark_pair.Given as goal

abbrev pub invariant-loop-i : goal.invariant-loop-i
invariant-loop-i l = (l.i < l.self.used → cell_at l.self.words l.i ≡ cell l.a l.b) × Marked (across_all l.self.kinds l.self.words (min l.i l.self.used) l.s.turn l.s.at) l.initial.marks l.marks

abbrev pub decreases-loop-i : goal.decreases-loop-i
decreases-loop-i l = l.self.used - l.i
