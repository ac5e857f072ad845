use Rattle.edges.specs.Near.{edges_over}
use Rattle.edges.specs.Edge.{Marked}
use Rattle.edges.proofs.near.Marker.mark_rows.Given as goal

abbrev pub invariant-loop-j : goal.invariant-loop-j
invariant-loop-j l = Marked (edges_over l.self.kinds l.self.words l.self.used l.from l.n l.j) l.initial.marks l.marks
