use Rattle.std.proofs.Common.{rules}
use Rattle.rv_instr.specs.Registers.{op_rs1}
use Rattle.rv_instr.proofs.op.Op.rs1.Goals as goal

pub returns-in-Known-clause-value : goal.returns-in-Known-clause-value
unfolding op_rs1
returns-in-Known-clause-value c = search rules
