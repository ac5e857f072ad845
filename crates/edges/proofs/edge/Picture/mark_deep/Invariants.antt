use Rattle.edges.specs.Edge.{Marked, deep}
use Rattle.edges.proofs.edge.Picture.mark_deep.Given as goal

abbrev pub invariant-loop-i : goal.invariant-loop-i
invariant-loop-i l = Marked (deep l.self l.r.allowed l.i l.c.turn.wp l.c.turn.wm l.x l.y) l.initial.marks l.marks
