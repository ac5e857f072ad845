use Rattle.edges.specs.Chains.{Chained}
use Rattle.edges.proofs.cells.Chains.of.Given as goal

abbrev pub invariant-loop-i : goal.invariant-loop-i
invariant-loop-i l = Chained l.rules.words.now l.rules.used l.i l.chains
