use Rattle.std.proofs.Common.{rules}
use Rattle.core_steps.proofs.complete.has_operands.Goals as goal

pub returns-else-lent-first : goal.returns-else-lent-first
returns-else-lent-first c = search rules

pub returns-then-lent-first : goal.returns-then-lent-first
returns-then-lent-first c = search rules
