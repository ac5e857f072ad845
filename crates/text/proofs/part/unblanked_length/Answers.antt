-- `unblanked_length`. The bytes counted are the blanks at the end.
use Rattle.std.proofs.Common.{rules, tests}
use Rattle.std.proofs.lemmas.Iterator.Adapters.{YieldsList-from_rev_slice}
use Rattle.std.proofs.lemmas.Iterator.Consumers.{count_from_yields_List, YieldsList-at}
use Rattle.std.proofs.lemmas.Iterator.Search.{YieldsList-from_take_while}
use Rattle.text.proofs.Parts.{unblanked_counted}
use Rattle.text.specs.Part.{blank}
use Rattle.text.proofs.part.unblanked_length.Goals as goal

pub returns : goal.returns
returns c =
    unblanked_counted c.args.text.now c.count.result
    (count_from_yields_List _ _ c.count.ensures.ran (YieldsList-from_take_while _ blank (YieldsList-at c.take_while.ensures.source (YieldsList-from_rev_slice c.args.text.now cc)) c.take_while.ensures.closure c.take_while.ensures.done (λ x b q k. search (rules, tests))))
