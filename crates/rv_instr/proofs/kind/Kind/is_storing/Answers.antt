use Rattle.std.proofs.Common.{rules}
use Rattle.rv_instr.proofs.kind.Kind.is_storing.Goals as goal

pub returns-in-Storing : goal.returns-in-Storing
returns-in-Storing c = search rules
