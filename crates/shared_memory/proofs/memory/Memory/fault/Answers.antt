use Rattle.std.proofs.Common.{rules}
use Rattle.shared_memory.proofs.memory.Memory.fault.Goals as goal

pub returns-in-Load : goal.returns-in-Load
returns-in-Load c = search rules

pub returns-in-Store : goal.returns-in-Store
returns-in-Store c = search rules
