use Rattle.std.proofs.Common.{rules}
use Rattle.events.proofs.kind.EventKind.fields_after.Goals as goal

pub returns-in-Rename : goal.returns-in-Rename
returns-in-Rename c = search rules
