use Rattle.std.proofs.Common.{rules}
use Rattle.core_state.proofs.state.State.harts.Goals as goal

pub returns-clause-value : goal.returns-clause-value
returns-clause-value c = search rules
