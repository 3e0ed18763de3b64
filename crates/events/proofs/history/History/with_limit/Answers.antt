use Rattle.std.proofs.Common.{rules}
use Rattle.events.proofs.history.History.with_limit.Goals as goal

pub returns-in_err-with_capacity : goal.returns-in_err-with_capacity
returns-in_err-with_capacity c = search rules
