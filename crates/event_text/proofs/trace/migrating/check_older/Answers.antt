use Rattle.std.proofs.Common.{sym, ◌∙◌}
use Rattle.event_text.proofs.Migrating.{tells}
use Rattle.event_text.proofs.trace.migrating.check_older.Goals as goal

pub returns-in-Ok-clause-checked : goal.returns-in-Ok-clause-checked
returns-in-Ok-clause-checked c = record {
  head = c.in-Ok.trace.head;
  events = c.in-Ok.trace.events;
  is_head = c.in-Ok.ensures.is_head;
  in_range = c.in-Ok.ensures.in_range;
  is_text = c.in-Ok.ensures.read;
  tells = tells _ c.header.result c.in-Ok.trace.head c.header.ensures.some c.header.ensures.none
      ∙ sym c.is_some.ensures;
}
