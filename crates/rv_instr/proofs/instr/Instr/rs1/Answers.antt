use Rattle.std.proofs.Common.{rules}
use Rattle.rv_instr.specs.Registers.{rs1_of}
use Rattle.rv_instr.proofs.instr.Instr.rs1.Goals as goal

pub returns-in-Ecall-clause-value : goal.returns-in-Ecall-clause-value
unfolding rs1_of
returns-in-Ecall-clause-value c = search rules
