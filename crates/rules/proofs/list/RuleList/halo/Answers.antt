-- `halo`. Each turn takes the larger of the halo so far and the next rule's reach.
use Rattle.rules.proofs.Vetted.{halo_more}
use Rattle.rules.specs.Words.{halo_of, reach}
use mathlib.Core.Path.{refl, sym, ◌∙◌, ap, ap₂}
use Prim.Native.Nat.{max}
use Rattle.rules.proofs.list.RuleList.halo.Goals as goal

pub loop-i-init : goal.loop-i-init
unfolding halo_of
loop-i-init c = refl

pub loop-i-preserved : goal.loop-i-preserved
loop-i-preserved c = c.max-halo.ensures ∙ (ap₂ max c.loop-i.invariant (c.reach.ensures ∙ ap reach c.rule.ensures) ∙ sym (halo_more c.args.self.words.now c.loop-i.i))
