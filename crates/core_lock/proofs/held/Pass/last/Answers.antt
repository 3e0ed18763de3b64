use Rattle.std.proofs.Common.{rules}
use Rattle.core_lock.proofs.held.Pass.last.Goals as goal

pub returns : goal.returns
returns g c = search rules
