-- `count`. The product of the two counts of ones.
use Rattle.macros.proofs.Counts.{rows_count}
use Rattle.std.proofs.Common.{rules}
use mathlib.Core.Path.{sym}
use Rattle.macros.proofs.pairs.Pairs.count.Goals as goal

pub returns : goal.returns
returns c =
    let p = c.args.self in
    (sym (rows_count p.t p.first p.second p.made p.below.1 p.below.2), search rules)
