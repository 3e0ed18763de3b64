use Rattle.std.proofs.Common.{rules}
use Rattle.events.proofs.kind.EventKind.from_letter.Goals as goal

pub returns-in-88-clause-named : goal.returns-in-88-clause-named
returns-in-88-clause-named c = search rules
