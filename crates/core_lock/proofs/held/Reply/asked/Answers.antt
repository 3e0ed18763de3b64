use Rattle.std.proofs.Common.{rules}
use Rattle.core_lock.proofs.held.Reply.asked.Goals as goal

pub returns : goal.returns
returns g c = search rules
