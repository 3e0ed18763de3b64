use Rattle.std.proofs.Common.{arith, rules}
use Rattle.std.proofs.lemmas.Grind.{common_steps}
use Rattle.shared_memory.proofs.bytes.number_in.Goals as goal

pub returns-in-1 : goal.returns-in-1
returns-in-1 c = search rules

pub returns-in-2 : goal.returns-in-2
returns-in-2 c = first_of (search rules, grind (arith, common_steps))

pub returns-in_default : goal.returns-in_default
returns-in_default c = first_of (search rules, grind (arith, common_steps))
