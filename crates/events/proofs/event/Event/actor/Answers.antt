use Rattle.std.proofs.Common.{rules}
use Rattle.events.proofs.event.Event.actor.Goals as goal

pub returns-in-Fetch : goal.returns-in-Fetch
returns-in-Fetch c = search rules
