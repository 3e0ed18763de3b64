use Rattle.std.proofs.Common.{[], subst, sym}
use Rattle.litmus_reading.specs.Grammar.{WholeCondition}
use Rattle.litmus_reading.proofs.Chains.{passed_on}
use Rattle.litmus_reading.proofs.question.read_quantified.Goals as goal

pub returns-in_err-condition-clause-only : goal.returns-in_err-condition-clause-only
returns-in_err-condition-clause-only c = λ quantifier condition it.
    let first = c.in_ok-quantifier.ensures.only quantifier it.behind it.begins in
    passed_on c.from_residual-in_err-condition.result c.in_err-condition.field-0.0 _ _
    c.from_residual-in_err-condition.ensures.1 (c.in_err-condition.ensures.only condition []
    (subst (λ t. WholeCondition c.args.asked.now.harts t condition []) (sym first.1) it.asks) tt)

pub returns-in_err-nothing-clause-only : goal.returns-in_err-nothing-clause-only
returns-in_err-nothing-clause-only c = λ quantifier condition it.
    let first = c.in_ok-quantifier.ensures.only quantifier it.behind it.begins in
    let read = c.in_ok-condition.ensures.only condition []
    (subst (λ t. WholeCondition c.args.asked.now.harts t condition []) (sym first.1) it.asks) tt in
    absurd (c.in_err-nothing.ensures.refused read.1)

pub returns-clause-only : goal.returns-clause-only
returns-clause-only c = λ quantifier condition it.
    let first = c.in_ok-quantifier.ensures.only quantifier it.behind it.begins in
    let read = c.in_ok-condition.ensures.only condition []
    (subst (λ t. WholeCondition c.args.asked.now.harts t condition []) (sym first.1) it.asks) tt in
    (first.0, read.0)
