use Rattle.std.proofs.Common.{rules}
use Rattle.core_steps.proofs.issue.leave_queue.Goals as goal

pub returns-clause-icount : goal.returns-clause-icount
returns-clause-icount c = search rules
