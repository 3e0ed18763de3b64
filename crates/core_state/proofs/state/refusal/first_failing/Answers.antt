use Rattle.std.proofs.Common.{arith, rules}
use Rattle.std.proofs.lemmas.Grind.{common_steps}
use Rattle.core_state.proofs.state.refusal.first_failing.Goals as goal

pub returns-then-not-rule : goal.returns-then-not-rule
returns-then-not-rule c = first_of (search rules, grind (arith, common_steps))
