-- What a text that was read is the trace of.

use Rattle.std.specs.Prelude.{List}
use Rattle.events.specs.{declared.event.Event.Event}
use Rattle.event_text.specs.{declared.head.TraceHead.TraceHead}

-- how it begins, and its events, the oldest first
pub record TraceContent : Type 0 where
  pub head : TraceHead
  pub events : List Event
