use Rattle.std.proofs.Common.{rules}
use Rattle.rv_instr.specs.Registers.{unit_of}
use Rattle.rv_instr.proofs.instr.Instr.unit.Goals as goal

pub returns-in-MulDiv : goal.returns-in-MulDiv
unfolding unit_of
returns-in-MulDiv c = search rules
