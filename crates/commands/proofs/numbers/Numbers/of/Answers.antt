-- `Numbers::of`. Of the parts after the first, some are read and the others are left; each turn reads the next.
use Rattle.std.proofs.Common.{rules, tests, sym, ◌∙◌}
use Rattle.std.proofs.lemmas.Iterator.Consumers.{YieldsList-turn, YieldsList-end}
use Rattle.std.proofs.lemmas.List.{length_push}
use Rattle.commands.proofs.Reading.{none_left, parts_given, read_none, read_on, read_not, read_many, read_done}
use Rattle.commands.proofs.numbers.Numbers.of.Goals as goal

pub returns-in_default : goal.returns-in_default
returns-in_default c = rw c.new-numbers.ensures (none_left c.args.left.now c.in_default.ensures.cases)

pub loop-part-init : goal.loop-part-init
loop-part-init c = rw c.new-numbers.ensures (read_none _)

pub returns-in_err-number_in : goal.returns-in_err-number_in
returns-in_err-number_in c =
    let given = parts_given _ c.args.left.now c.in-Some.line.now c.in-Some.ensures.cases.0 (cc) (cc) (cc) (λ x b q k. search (rules, tests)) in
    let t = YieldsList-turn given c.loop-part.yielded _ c.loop-part.yielded_by _ _ c.in-Some-part.part c.in-Some-part.is c.next.ensures.steps in
    rw c.from_residual.ensures (read_not _ _ _ c.loop-part.invariant t.0 _ t.1 (sym (c.in_err-number_in.was) ∙ c.number_in.ensures))

pub returns-in_err-push : goal.returns-in_err-push
returns-in_err-push c =
    let given = parts_given _ c.args.left.now c.in-Some.line.now c.in-Some.ensures.cases.0 (cc) (cc) (cc) (λ x b q k. search (rules, tests)) in
    let t = YieldsList-turn given c.loop-part.yielded _ c.loop-part.yielded_by _ _ c.in-Some-part.part c.in-Some-part.is c.next.ensures.steps in
    rw c.from_residual-in_err-push.ensures (read_many _ _ _ c.loop-part.invariant t.0 _ t.1 c.in_err-push.ensures)

pub loop-part-preserved : goal.loop-part-preserved
loop-part-preserved c =
    let given = parts_given _ c.args.left.now c.in-Some.line.now c.in-Some.ensures.cases.0 (cc) (cc) (cc) (λ x b q k. search (rules, tests)) in
    let t = YieldsList-turn given c.loop-part.yielded _ c.loop-part.yielded_by _ _ c.in-Some-part.part c.in-Some-part.is c.next.ensures.steps in
    rw (length_push c.loop-part.yielded c.in-Some-part.part) (read_on _ _ _ c.loop-part.invariant t.0 _ t.1 _ _ (sym c.in_ok-number_in.was ∙ c.number_in.ensures) c.in_ok-push.ensures)

pub returns : goal.returns
returns c =
    let given = parts_given _ c.args.left.now c.in-Some.line.now c.in-Some.ensures.cases.0 (cc) (cc) (cc) (λ x b q k. search (rules, tests)) in
    let t = YieldsList-end given c.loop-part.yielded _ c.loop-part.yielded_by _ _ c.in-None.is c.next.ensures.steps in
    read_done _ _ _ c.loop-part.invariant t.1
