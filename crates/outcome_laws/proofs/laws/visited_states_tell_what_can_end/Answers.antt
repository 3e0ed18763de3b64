use Rattle.outcome_laws.proofs.Settling.{no_end_is_reached, each_can_end}
use Rattle.outcome_laws.proofs.laws.visited_states_tell_what_can_end.Goals as goal

pub returns-clause-stuck : goal.returns-clause-stuck
returns-clause-stuck c = no_end_is_reached

pub returns-clause-always : goal.returns-clause-always
returns-clause-always c = each_can_end
