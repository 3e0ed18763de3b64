use Rattle.std.proofs.Common.{rules}
use Rattle.core_steps.proofs.accesses.remove_access.Goals as goal

pub returns-in-Computing : goal.returns-in-Computing
returns-in-Computing c = search rules

pub returns-in-Loading : goal.returns-in-Loading
returns-in-Loading c = search rules

pub returns-in-Storing : goal.returns-in-Storing
returns-in-Storing c = search rules
