use Rattle.litmus_reading.proofs.QuestionRead.{whole_read}
use Rattle.litmus_reading.proofs.question.read_whole.Goals as goal

pub returns-clause-only : goal.returns-clause-only
returns-clause-only c = λ condition rest it over.
    let read = c.in_ok-condition.ensures.only it.taken.syntax condition rest (whole_read _ _ condition rest it over) in
    (read.same, read.left)
