use Rattle.edges.specs.Near.{edges_to}
use Rattle.edges.specs.Edge.{Marked}
use Rattle.edges.proofs.near.Marker.mark_range.Given as goal

abbrev pub invariant-loop-k : goal.invariant-loop-k
invariant-loop-k l = Marked (edges_to l.self.kinds l.self.words l.self.used l.from l.k) l.initial.marks l.marks
