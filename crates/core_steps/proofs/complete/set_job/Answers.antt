use Rattle.std.proofs.Common.{rules, arith}
use Rattle.std.proofs.lemmas.Grind.{common_steps}
use Rattle.core_steps.proofs.complete.set_job.Goals as goal

pub returns-else-actor-lt-MOST_ACTORS : goal.returns-else-actor-lt-MOST_ACTORS
returns-else-actor-lt-MOST_ACTORS c = first_of (search rules, grind (arith, common_steps))

pub returns-then-actor-lt-MOST_ACTORS : goal.returns-then-actor-lt-MOST_ACTORS
returns-then-actor-lt-MOST_ACTORS c = search rules
