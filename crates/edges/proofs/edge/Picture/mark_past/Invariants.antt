use Rattle.edges.specs.Edge.{Marked, past}
use Rattle.edges.proofs.edge.Picture.mark_past.Given as goal

abbrev pub invariant-loop-j : goal.invariant-loop-j
invariant-loop-j l = Marked (past l.self l.r l.c.turn l.c.at l.j) l.initial.marks l.marks
