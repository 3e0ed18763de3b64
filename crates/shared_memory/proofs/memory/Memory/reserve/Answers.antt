use Rattle.std.proofs.Common.{rules}
use Rattle.shared_memory.proofs.memory.Memory.reserve.Goals as goal

pub returns-clause-reserved : goal.returns-clause-reserved
returns-clause-reserved c = search rules
