-- What callers see of a `History`.

use Rattle.std.specs.Prelude.{ℕ, List}
use Rattle.events.specs.declared.event.Event.{Event}

-- the events so far, the oldest first, and how many there may be
pub record EventList : Type 0 where
  pub limit : ℕ
  pub items : List Event
