-- `past_blanks`. The bytes counted are those in front that are blanks.
use Rattle.std.proofs.Common.{rules, drop, tests, ap, ◌+◌, ℕ, ◌∙◌}
use Rattle.std.proofs.lemmas.Iterator.{YieldsList-from_slice}
use Rattle.std.proofs.lemmas.Iterator.Adapters.{YieldsList-from_skip}
use Rattle.std.proofs.lemmas.Iterator.Consumers.{count_from_yields_List, YieldsList-at}
use Rattle.std.proofs.lemmas.Iterator.Search.{YieldsList-from_take_while}
use Rattle.text.proofs.Parts.{leading_taken}
use Rattle.text.specs.Part.{blank}
use Rattle.text.proofs.script.past_blanks.Goals as goal

pub returns : goal.returns
returns c =
    let skipped = YieldsList-from_skip _ (YieldsList-at c.skip.ensures.source (YieldsList-from_slice c.args.text.now cc)) c.skip.ensures.count in
    ap (λ (n : ℕ). c.args.at + n) (count_from_yields_List _ _ c.count.ensures.ran (YieldsList-from_take_while _ blank (YieldsList-at c.take_while.ensures.source skipped) c.take_while.ensures.closure c.take_while.ensures.done (λ x b q k. search (rules, tests))) ∙ leading_taken blank (drop c.args.at c.args.text.now))
