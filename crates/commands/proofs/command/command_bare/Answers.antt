-- `command_bare`. The first part is the keyword, and the parts after it are its numbers or not.
use Rattle.std.proofs.Common.{sym, subst, ◌∙◌, ℕ, List, arith, rules}
use lib.Seq.{length-take-le}
use Rattle.text.proofs.Parts.{part_end_within}
use Rattle.commands.proofs.Whole.{rest_all, bare_wordless, bare_bad, bare_good}
use Rattle.text.specs.Part.{parts_left}
use Rattle.commands.specs.Numbers.{Good, Bad}
use Rattle.commands.proofs.command.command_bare.Goals as goal

pub slice_bounds-of-end : goal.slice_bounds-of-end
slice_bounds-of-end c = sym (length-take-le c.part_end-end.result c.args.text.now (omega (arith, part_end_within c.args.text.now 0 (search rules))))

pub slice_bounds-of-count : goal.slice_bounds-of-count
slice_bounds-of-count c = omega (arith, c.part_end-end.ensures, part_end_within c.args.text.now 0 (search rules))

pub slice_bounds-of-start : goal.slice_bounds-of-start
slice_bounds-of-start c = omega (arith, c.part_end-end.ensures, part_end_within c.args.text.now 0 (search rules))

pub returns-in_err-keyword : goal.returns-in_err-keyword
returns-in_err-keyword c = c.from_residual.ensures ∙ bare_wordless _ _ c.part_end-end.ensures (sym c.in_err-keyword.was ∙ c.of.ensures)

pub returns-in_err-numbers : goal.returns-in_err-numbers
returns-in_err-numbers c = c.from_residual-in_err-numbers.ensures ∙ bare_bad _ _ c.part_end-end.ensures _ (sym c.in_ok-keyword.was ∙ c.of.ensures) (subst (λ (l : List ℕ). Bad (parts_left l)) (rest_all c.args.text.now c.part_end-end.result) c.in_err-numbers.ensures)

pub returns : goal.returns
returns c = c.command_with.ensures ∙ rw c.as_slice.ensures (bare_good _ _ c.part_end-end.ensures _ _ (sym c.in_ok-keyword.was ∙ c.of.ensures) (subst (λ (l : List ℕ). Good c.in_ok-numbers.numbers (parts_left l)) (rest_all c.args.text.now c.part_end-end.result) c.in_ok-numbers.ensures))
