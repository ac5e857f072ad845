-- `put_rule`. The eight words go where they are copied.
use Rattle.rules.specs.Words.{rule_words}
use Rattle.macros.proofs.Puts.{put_words}
use mathlib.Core.Path.{refl}
use Rattle.macros.proofs.pairs.put_rule.Goals as goal

pub returns : goal.returns
unfolding rule_words
returns c = rw c.copy_from_slice.ensures.after (put_words c.args.list.now (rule_words c.args.r) c.args.n refl c.requires)
