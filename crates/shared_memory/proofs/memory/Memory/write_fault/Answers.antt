use Rattle.std.proofs.Common.{rules}
use Rattle.shared_memory.proofs.memory.Memory.write_fault.Goals as goal

pub returns : goal.returns
returns c = search rules

pub returns-then-addr-from-ne0 : goal.returns-then-addr-from-ne0
returns-then-addr-from-ne0 c = search rules

pub returns-then-not-in_ram : goal.returns-then-not-in_ram
returns-then-not-in_ram c = search rules
