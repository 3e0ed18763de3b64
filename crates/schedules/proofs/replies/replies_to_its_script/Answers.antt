use Rattle.schedules.proofs.Scripted.{replies, fills}
use Rattle.schedules.proofs.replies.replies_to_its_script.Goals as goal

pub returns-clause-replies : goal.returns-clause-replies
returns-clause-replies g c = replies g.P.Predict.predicts

pub returns-clause-fills : goal.returns-clause-fills
returns-clause-fills g c = fills g.P.Predict.predicts c.asks_have_one_answer.ensures.replies
