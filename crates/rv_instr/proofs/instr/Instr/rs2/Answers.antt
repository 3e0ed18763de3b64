use Rattle.std.proofs.Common.{rules}
use Rattle.rv_instr.specs.Registers.{rs2_of}
use Rattle.rv_instr.proofs.instr.Instr.rs2.Goals as goal

pub returns-in-Ecall-clause-value : goal.returns-in-Ecall-clause-value
unfolding rs2_of
returns-in-Ecall-clause-value c = search rules
