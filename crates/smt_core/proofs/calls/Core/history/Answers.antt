use Rattle.std.proofs.Common.{rules}
use Rattle.smt_core.proofs.calls.Core.history.Goals as goal

pub returns-clause-events : goal.returns-clause-events
returns-clause-events c = search rules
