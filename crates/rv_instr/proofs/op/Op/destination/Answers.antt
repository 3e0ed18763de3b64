use Rattle.std.proofs.Common.{rules}
use Rattle.rv_instr.specs.Kinds.{destination}
use Rattle.rv_instr.proofs.op.Op.destination.Goals as goal

pub returns-clause-value : goal.returns-clause-value
unfolding destination
returns-clause-value c = search rules
