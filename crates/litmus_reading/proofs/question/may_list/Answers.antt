use Rattle.std.proofs.Common.{sym}
use Rattle.litmus_reading.proofs.Chains.{passed_on}
use Rattle.litmus_reading.proofs.QuestionRead.{some_list}
use Rattle.litmus_reading.proofs.question.may_list.Goals as goal

pub returns-in_err-rest-clause-only : goal.returns-in_err-rest-clause-only
returns-in_err-rest-clause-only c = λ has list whole rest may other.
    let first = c.begins_with.ensures.yes c.if-begins_with.true in
    let it = some_list _ _ first.0 has list whole rest first.1 other may in
    passed_on c.from_residual.result c.in_err-rest.field-0.0 _ _ c.from_residual.ensures.1
    (c.in_err-rest.ensures.only list whole rest it.1)

pub returns-then-begins_with-clause-only : goal.returns-then-begins_with-clause-only
returns-then-begins_with-clause-only c = λ has list whole rest may other.
    let first = c.begins_with.ensures.yes c.if-begins_with.true in
    let it = some_list _ _ first.0 has list whole rest first.1 other may in
    let read = c.in_ok-rest.ensures.only list whole rest it.1 in (sym it.0, read.0, read.1, read.2)
