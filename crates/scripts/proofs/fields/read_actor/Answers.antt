use Rattle.std.proofs.Common.{rules}
use Rattle.scripts.proofs.fields.read_actor.Goals as goal

pub returns-clause-found : goal.returns-clause-found
returns-clause-found c = search rules

pub returns-clause-only : goal.returns-clause-only
returns-clause-only c = search rules
