use Rattle.std.proofs.Common.{Bool, subst, sym}
use Rattle.litmus_reading.specs.Questions.{IsAskedAfter}
use Rattle.litmus_reading.proofs.Chains.{passed_on}
use Rattle.litmus_reading.proofs.QuestionRead.{at_question}
use Rattle.litmus_reading.proofs.question.read_question.Goals as goal

pub returns-in_err-has_list-clause-only : goal.returns-in_err-has_list-clause-only
returns-in_err-has_list-clause-only c = λ quantifier condition filter listed whole it.
    let at = at_question _ _ _ quantifier condition it.asked in
    passed_on c.from_residual.result c.in_err-has_list.field-0.0 _ _ c.from_residual.ensures.1
    (c.in_err-has_list.ensures.only it.has listed whole filter it.rest it.before at.over at.list at.filter)

pub returns-in_err-quantifier-clause-only : goal.returns-in_err-quantifier-clause-only
returns-in_err-quantifier-clause-only c = λ quantifier condition filter listed whole it.
    let at = at_question _ _ _ quantifier condition it.asked in
    let read = c.in_ok-has_list.ensures.only it.has listed whole filter it.rest it.before at.over at.list at.filter in
    passed_on c.from_residual-in_err-quantifier.result c.in_err-quantifier.field-0.0 _ _
    c.from_residual-in_err-quantifier.ensures.1 (c.in_err-quantifier.ensures.only quantifier condition
    (subst (λ (b : Bool). IsAskedAfter c.args.asked.now.harts b c.in_ok-has_list.rest.now quantifier condition) (sym read.0)
    (subst (λ t. IsAskedAfter c.args.asked.now.harts it.has t quantifier condition) (sym read.2) it.asked)))

pub returns-clause-only : goal.returns-clause-only
returns-clause-only c = λ quantifier condition filter listed whole it.
    let at = at_question _ _ _ quantifier condition it.asked in
    let read = c.in_ok-has_list.ensures.only it.has listed whole filter it.rest it.before at.over at.list at.filter in
    let asked = c.in_ok-quantifier.ensures.only quantifier condition
    (subst (λ (b : Bool). IsAskedAfter c.args.asked.now.harts b c.in_ok-has_list.rest.now quantifier condition) (sym read.0)
    (subst (λ t. IsAskedAfter c.args.asked.now.harts it.has t quantifier condition) (sym read.2) it.asked)) in
    (asked.0, asked.1, read.1, read.3, read.4)
