use Rattle.std.proofs.Common.{rules}
use Rattle.core_steps.proofs.retire.address_at.Goals as goal

pub returns-in-Completed : goal.returns-in-Completed
returns-in-Completed c = search rules
