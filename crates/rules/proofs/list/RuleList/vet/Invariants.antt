use Rattle.rules.specs.Vetting.{AllSound}
use Rattle.rules.proofs.list.RuleList.vet.Given as goal

abbrev pub invariant-loop-i : goal.invariant-loop-i
invariant-loop-i l = AllSound l.fn.self.words.now l.i l.t
