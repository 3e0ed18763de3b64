use Rattle.std.proofs.Common.{rules}
use Rattle.actors.proofs.actor.take_turn.Goals as goal

pub returns-in-Fetch-clause-asked : goal.returns-in-Fetch-clause-asked
returns-in-Fetch-clause-asked g c = search rules

pub returns-in-Retire-clause-asked : goal.returns-in-Retire-clause-asked
returns-in-Retire-clause-asked g c = search rules
