use Rattle.std.proofs.Common.{rules}
use Rattle.shared_memory.proofs.memory.Memory.take_reservation.Goals as goal

pub returns-clause-held : goal.returns-clause-held
returns-clause-held c = search rules

pub returns-clause-reserved : goal.returns-clause-reserved
returns-clause-reserved c = search rules
