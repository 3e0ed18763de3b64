use Rattle.std.proofs.Common.{rules}
use Rattle.core_state.proofs.state.State.is_of.Goals as goal

pub returns-then-same_as : goal.returns-then-same_as
returns-then-same_as c = search rules

pub returns-else-same_as : goal.returns-else-same_as
returns-else-same_as c = search rules
