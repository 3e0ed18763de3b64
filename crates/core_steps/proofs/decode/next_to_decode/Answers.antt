use Rattle.std.proofs.Common.{rules, arith}
use Rattle.std.proofs.lemmas.Grind.{common_steps}
use Rattle.core_steps.proofs.decode.next_to_decode.Goals as goal

pub returns-else-is_full-clause-inside : goal.returns-else-is_full-clause-inside
returns-else-is_full-clause-inside c = search rules

pub returns-else-is_full-clause-none : goal.returns-else-is_full-clause-none
returns-else-is_full-clause-none c = search rules

pub returns-else-is_full-clause-some : goal.returns-else-is_full-clause-some
returns-else-is_full-clause-some c = first_of (search rules, grind (arith, common_steps))

pub returns-in_err-slot-clause-inside : goal.returns-in_err-slot-clause-inside
returns-in_err-slot-clause-inside c = search rules

pub returns-in_err-slot-clause-none : goal.returns-in_err-slot-clause-none
returns-in_err-slot-clause-none c = first_of (search rules, grind (arith, common_steps))

pub returns-in_err-slot-clause-some : goal.returns-in_err-slot-clause-some
returns-in_err-slot-clause-some c = search rules

pub returns-in_err-state-clause-inside : goal.returns-in_err-state-clause-inside
returns-in_err-state-clause-inside c = search rules

pub returns-in_err-state-clause-none : goal.returns-in_err-state-clause-none
returns-in_err-state-clause-none c = search rules

pub returns-in_err-state-clause-some : goal.returns-in_err-state-clause-some
returns-in_err-state-clause-some c = search rules

pub returns-then-is_full-clause-inside : goal.returns-then-is_full-clause-inside
returns-then-is_full-clause-inside c = search rules

pub returns-then-is_full-clause-none : goal.returns-then-is_full-clause-none
returns-then-is_full-clause-none c = first_of (search rules, grind (arith, common_steps))

pub returns-then-is_full-clause-some : goal.returns-then-is_full-clause-some
returns-then-is_full-clause-some c = search rules
