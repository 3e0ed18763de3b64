use Rattle.outcome_laws.proofs.Live.{alike_states_step_alike}
use Rattle.outcome_laws.proofs.laws.alike_states_step_alike.Goals as goal

pub returns : goal.returns
returns c = record { alike = alike_states_step_alike }
