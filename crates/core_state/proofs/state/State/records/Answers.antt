use Rattle.std.proofs.Common.{rules}
use Rattle.core_state.proofs.state.State.records.Goals as goal

pub returns : goal.returns
returns c = search rules
