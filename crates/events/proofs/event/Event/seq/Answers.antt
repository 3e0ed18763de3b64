use Rattle.std.proofs.Common.{rules}
use Rattle.events.proofs.event.Event.seq.Goals as goal

pub returns-in-Fetch : goal.returns-in-Fetch
returns-in-Fetch c = search rules
