use Rattle.std.proofs.Common.{rules}
use Rattle.core_lock.proofs.held.asking.ask_core.Goals as goal

pub returns-in-Rename-clause-answer : goal.returns-in-Rename-clause-answer
returns-in-Rename-clause-answer g c = search rules
