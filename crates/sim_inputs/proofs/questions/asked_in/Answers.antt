use Rattle.sim_inputs.proofs.Searches.{not_asked}
use Rattle.sim_inputs.proofs.questions.asked_in.Goals as goal

pub returns-in_default : goal.returns-in_default
returns-in_default c one is = not_asked _ c.in_default.ensures one.question one.why is
