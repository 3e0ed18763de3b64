use Rattle.std.proofs.Common.{rules}
use Rattle.rv_instr.proofs.instr.Instr.kind.Goals as goal

pub returns-in-StoreConditional : goal.returns-in-StoreConditional
returns-in-StoreConditional c = search rules
