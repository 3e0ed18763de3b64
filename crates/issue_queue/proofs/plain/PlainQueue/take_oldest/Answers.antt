use Rattle.std.proofs.Common.{rules}
use Rattle.issue_queue.proofs.plain.PlainQueue.take_oldest.Goals as goal

pub returns-clause-taken : goal.returns-clause-taken
returns-clause-taken c = search rules
