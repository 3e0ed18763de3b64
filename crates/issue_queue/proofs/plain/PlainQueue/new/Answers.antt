use Rattle.std.proofs.Common.{rules}
use Rattle.issue_queue.proofs.plain.PlainQueue.new.Goals as goal

pub returns : goal.returns
returns c = search rules
