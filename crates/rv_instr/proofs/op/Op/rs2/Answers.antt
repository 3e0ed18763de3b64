use Rattle.std.proofs.Common.{rules}
use Rattle.rv_instr.specs.Registers.{op_rs2}
use Rattle.rv_instr.proofs.op.Op.rs2.Goals as goal

pub returns-in-Known-clause-value : goal.returns-in-Known-clause-value
unfolding op_rs2
returns-in-Known-clause-value c = search rules
