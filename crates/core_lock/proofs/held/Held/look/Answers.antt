use Rattle.std.proofs.Common.{rules}
use Rattle.core_lock.proofs.held.Held.look.Goals as goal

pub returns-clause-read : goal.returns-clause-read
returns-clause-read g c = search rules
