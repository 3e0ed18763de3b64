use Rattle.outcome_laws.proofs.{Settling.every_end_is_visited, Seen.each_memory_is_visited}
use Rattle.outcome_laws.proofs.Search.{what_settles_is_reached}
use Rattle.outcome_laws.proofs.laws.visited_states_are_enough.Goals as goal

pub returns-clause-ends : goal.returns-clause-ends
returns-clause-ends c = every_end_is_visited

pub returns-clause-memory : goal.returns-clause-memory
returns-clause-memory c = each_memory_is_visited

pub returns-clause-reached : goal.returns-clause-reached
returns-clause-reached c = what_settles_is_reached
