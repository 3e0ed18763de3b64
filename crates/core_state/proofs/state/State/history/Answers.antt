use Rattle.std.proofs.Common.{rules}
use Rattle.core_state.proofs.state.State.history.Goals as goal

pub returns-clause-events : goal.returns-clause-events
returns-clause-events c = search rules
