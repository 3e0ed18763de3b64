use Rattle.std.proofs.Common.{rules}
use Rattle.rv_instr.specs.Registers.{op_rd}
use Rattle.rv_instr.proofs.op.Op.rd.Goals as goal

pub returns-in-Known-clause-value : goal.returns-in-Known-clause-value
unfolding op_rd
returns-in-Known-clause-value c = search rules
