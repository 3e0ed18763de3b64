use Rattle.std.proofs.Common.{rules}
use Rattle.actors.proofs.turns.job_of.Goals as goal

pub returns-in-Event : goal.returns-in-Event
returns-in-Event c = search rules

pub returns-in-Job : goal.returns-in-Job
returns-in-Job c = search rules
