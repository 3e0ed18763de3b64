use Rattle.std.proofs.Common.{rules}
use Rattle.events.proofs.history.History.iter.Goals as goal

pub returns-clause-events : goal.returns-clause-events
returns-clause-events c = search rules
