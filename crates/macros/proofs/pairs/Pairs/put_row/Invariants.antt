use Rattle.macros.specs.Expansion.{Put}
use Rattle.macros.specs.Macros.{row}
use Rattle.macros.proofs.pairs.Pairs.put_row.Given as goal

abbrev pub invariant-loop-b : goal.invariant-loop-b
invariant-loop-b l = Put l.n l.k (row l.b l.self.second l.self.made l.a) l.initial.list l.list
