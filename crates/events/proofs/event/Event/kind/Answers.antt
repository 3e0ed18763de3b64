use Rattle.std.proofs.Common.{rules}
use Rattle.events.proofs.event.Event.kind.Goals as goal

pub returns-in-Drop : goal.returns-in-Drop
returns-in-Drop c = search rules
