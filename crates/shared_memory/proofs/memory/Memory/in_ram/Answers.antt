use Rattle.std.proofs.Common.{rules}
use Rattle.shared_memory.proofs.memory.Memory.in_ram.Goals as goal

pub returns-else-addr-ge-RAM_START : goal.returns-else-addr-ge-RAM_START
returns-else-addr-ge-RAM_START c = search rules

pub returns-then-addr-ge-RAM_START : goal.returns-then-addr-ge-RAM_START
returns-then-addr-ge-RAM_START c = search rules
