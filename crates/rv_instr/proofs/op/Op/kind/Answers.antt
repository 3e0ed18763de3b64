use Rattle.std.proofs.Common.{rules}
use Rattle.rv_instr.specs.{Kinds.kind_of}
use Rattle.rv_instr.proofs.op.Op.kind.Goals as goal

pub returns-in-Illegal : goal.returns-in-Illegal
unfolding kind_of
returns-in-Illegal c = search rules
