use Rattle.std.proofs.Common.{rules}
use Rattle.core_lock.proofs.held.asking.complete.Goals as goal

pub returns-in-Done : goal.returns-in-Done
returns-in-Done c = search rules
