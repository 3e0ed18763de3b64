use Rattle.std.proofs.Common.{rules}
use Rattle.issue_queue.proofs.entry.Source.is_value.Goals as goal

pub returns-in-Value : goal.returns-in-Value
returns-in-Value c = search rules

pub returns-in_default : goal.returns-in_default
returns-in_default c = search rules
