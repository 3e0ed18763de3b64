use Rattle.std.proofs.Common.{rules}
use Rattle.rv_instr.proofs.op.Op.writes_register.Goals as goal

pub returns : goal.returns
returns c = search rules
