use Rattle.std.proofs.Common.{arith, rules}
use Rattle.std.proofs.lemmas.Grind.{common_steps}
use Rattle.core_state.proofs.state.State.is_full.Goals as goal

pub returns-clause-full : goal.returns-clause-full
returns-clause-full c = first_of (search rules, grind (arith, common_steps))

pub returns-clause-room : goal.returns-clause-room
returns-clause-room c = first_of (search rules, grind (arith, common_steps))
