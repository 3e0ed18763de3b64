use Rattle.std.proofs.Common.{rules}
use Rattle.rv_instr.specs.{Decode.shift_op}
use Rattle.rv_decode.proofs.operations.shift_operation.Goals as goal

pub returns-in-32-eq5-clause-value : goal.returns-in-32-eq5-clause-value
unfolding shift_op
returns-in-32-eq5-clause-value c = search rules

pub returns-in-32-eq5-clause-found : goal.returns-in-32-eq5-clause-found
unfolding shift_op
returns-in-32-eq5-clause-found c = search rules

pub returns-in-32-eq5-clause-only : goal.returns-in-32-eq5-clause-only
unfolding shift_op
returns-in-32-eq5-clause-only c = search rules
