-- The rules of one product of sets, and of two.
use Rattle.std.specs.Prelude.{List, ◌++◌, Option, Some, None}
use Rattle.rules.specs.declared.rule.Rule.{Rule}
use Rattle.macros.specs.declared.pairs.Pairs.{Pairs}
use Rattle.macros.specs.Macros.{rows}

-- the rules of the pairs of two sets
abbrev pub rules_of : Pairs → List Rule
rules_of p = rows p.t p.t p.first p.second p.made

-- those of a product, and behind them those of another, if there is one
abbrev pub rules_of_both : Pairs → Option Pairs → List Rule
rules_of_both p None = rules_of p
rules_of_both p (Some q) = rules_of p ++ rules_of q
