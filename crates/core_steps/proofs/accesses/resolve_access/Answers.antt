use Rattle.std.proofs.Common.{rules}
use Rattle.core_steps.proofs.accesses.resolve_access.Goals as goal

pub returns-in_default : goal.returns-in_default
returns-in_default c = search rules
