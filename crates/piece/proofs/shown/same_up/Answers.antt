-- `same_up`. What holds of each row of the part holds of each index.
use mathlib.Core.Path.{◌∙◌, sym}
use lib.Dec.{eqb}
use Rattle.std.proofs.Common.{rules, tests, slice_range}
use Rattle.std.proofs.lemmas.Iterator.{YieldsList-from_slice}
use Rattle.std.proofs.lemmas.Iterator.Search.{all_from_yields_List}
use native.Mathlib.Omega.{arith}
use Rattle.piece.proofs.ShownRows.{same_words}
use Rattle.piece.proofs.shown.same_up.Goals as goal

pub returns : goal.returns
returns c = λ e.
    let w = c.args.word in
    let part = slice_range c.args.rows.now c.args.from c.args.to in
    same_words _ _ _ _ (omega (arith, c.requires)) (sym (all_from_yields_List (λ x. eqb x w) _ _ c.all.result c.all.ensures.ran (YieldsList-from_slice part cc) (λ x b q k. search (rules, tests))) ∙ e)
