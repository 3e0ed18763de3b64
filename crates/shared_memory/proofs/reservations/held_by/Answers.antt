use Rattle.std.proofs.Common.{rules}
use Rattle.shared_memory.proofs.reservations.held_by.Goals as goal

pub returns : goal.returns
returns c = search rules
