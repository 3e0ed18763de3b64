use Rattle.std.proofs.Common.{rules}
use Rattle.core_state.proofs.state.State.new.Goals as goal

pub returns-then-not-is_core-clause-refused : goal.returns-then-not-is_core-clause-refused
returns-then-not-is_core-clause-refused c = search rules
