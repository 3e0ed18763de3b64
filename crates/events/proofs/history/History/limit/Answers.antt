use Rattle.std.proofs.Common.{rules}
use Rattle.events.proofs.history.History.limit.Goals as goal

pub returns-clause-limit : goal.returns-clause-limit
returns-clause-limit c = search rules
