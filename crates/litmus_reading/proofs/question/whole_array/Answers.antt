use Rattle.litmus_reading.proofs.Items.{not_begun}
use Rattle.litmus_reading.proofs.question.whole_array.Goals as goal

pub returns-clause-over : goal.returns-clause-over
returns-clause-over c = not_begun c.in-Some.behind.now (c.begins_with.ensures.no c.if-begins_with.false)
