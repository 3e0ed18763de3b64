use Rattle.litmus_reading.proofs.QuestionRead.{some_filter}
use Rattle.litmus_reading.proofs.question.may_filter.Goals as goal

pub returns-then-begins_with-clause-only : goal.returns-then-begins_with-clause-only
returns-then-begins_with-clause-only c = λ filter rest may over other.
    let first = c.begins_with.ensures.yes c.if-begins_with.true in
    c.in_ok-filter.ensures.only filter rest (some_filter _ _ first.0 filter rest first.1 other may) over
