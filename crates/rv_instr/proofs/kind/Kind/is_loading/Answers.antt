use Rattle.std.proofs.Common.{rules}
use Rattle.rv_instr.proofs.kind.Kind.is_loading.Goals as goal

pub returns-in-Loading : goal.returns-in-Loading
returns-in-Loading c = search rules
