use Rattle.std.proofs.Common.{rules}
use Rattle.event_text.proofs.read.Rule.number.Goals as goal

pub returns-in-FieldCount : goal.returns-in-FieldCount
returns-in-FieldCount c = search rules
