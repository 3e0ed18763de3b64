use Rattle.std.proofs.Common.{rules}
use Rattle.events.proofs.kind.EventKind.letter.Goals as goal

pub returns-in-Retire : goal.returns-in-Retire
returns-in-Retire c = search rules
