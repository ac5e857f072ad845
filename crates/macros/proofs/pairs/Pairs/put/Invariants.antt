use Rattle.macros.specs.Expansion.{Put}
use Rattle.macros.specs.Macros.{rows}
use Rattle.macros.proofs.pairs.Pairs.put.Given as goal

abbrev pub invariant-loop-a : goal.invariant-loop-a
invariant-loop-a l = Put l.n l.k (rows l.a l.self.t l.self.first l.self.second l.self.made) l.initial.list l.list
