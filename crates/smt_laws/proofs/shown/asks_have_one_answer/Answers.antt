use Rattle.smt_laws.proofs.Showing.{Answering.asks_have_one_answer, Replies.replies_are_one}
use Rattle.smt_laws.proofs.shown.asks_have_one_answer.Goals as goal

pub returns-clause-one : goal.returns-clause-one
returns-clause-one c = asks_have_one_answer

pub returns-clause-replies : goal.returns-clause-replies
returns-clause-replies c = replies_are_one
