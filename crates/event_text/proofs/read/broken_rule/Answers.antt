use Rattle.std.proofs.Common.{rules}
use Rattle.event_text.proofs.read.broken_rule.Goals as goal

pub returns-then-field_count-fields_after : goal.returns-then-field_count-fields_after
returns-then-field_count-fields_after c = search rules
