use Rattle.std.proofs.Common.{rules}
use Rattle.rv_instr.specs.{Registers.op_unit}
use Rattle.rv_instr.proofs.op.Op.unit.Goals as goal

pub returns-in-Illegal : goal.returns-in-Illegal
unfolding op_unit
returns-in-Illegal c = search rules
