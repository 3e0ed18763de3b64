use Rattle.std.proofs.Common.{rules}
use Rattle.rv_instr.proofs.kind.Kind.touches_memory.Goals as goal

pub returns : goal.returns
returns c = search rules
