use Rattle.std.proofs.Common.{rules}
use Rattle.core_steps.proofs.retire.is_replay.Goals as goal

pub returns-else-is_loading : goal.returns-else-is_loading
returns-else-is_loading c = search rules

pub returns-then-is_loading : goal.returns-then-is_loading
returns-then-is_loading c = search rules
