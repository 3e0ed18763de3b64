use Rattle.std.proofs.Common.{rules}
use Rattle.core_state.proofs.state.refusal.same.is_same_effect.Goals as goal

pub returns-else-is_same_write : goal.returns-else-is_same_write
returns-else-is_same_write c = search rules

pub returns-then-is_same_write : goal.returns-then-is_same_write
returns-then-is_same_write c = search rules
