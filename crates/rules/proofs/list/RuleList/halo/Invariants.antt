use Rattle.rules.specs.Words.{halo_of}
use mathlib.Core.Path.{◌≡◌}
use Rattle.rules.proofs.list.RuleList.halo.Given as goal

abbrev pub invariant-loop-i : goal.invariant-loop-i
invariant-loop-i l = l.halo ≡ halo_of l.fn.self.words.now l.i
