-- How a `History` keeps its events.

use Rattle.std.specs.Prelude.{◌≤◌, List, length, map}
use Rattle.std.specs.Vec.{vec_capacity}
use Rattle.numbers.specs.Sizes.{most_events}
use Rattle.events.specs.{declared.event.Event.Event, History.EventList, Packed.event_in}
use Rattle.events.specs.{declared.history.History.TheInside.Inside}
use Rattle.events.specs.declared.history.Events.TheInside as walk

-- what callers see of it
abbrev pub event_list : Inside → EventList
event_list h = record { limit = h.limit; items = map event_in h.events.items }

-- the events are within the limit, room for all of them has been made, and a number of 24 bits
-- tells them apart
pub record IsRoomy (h : Inside) : Type 0 where
  pub within : length h.events.items ≤ h.limit
  pub roomy : h.limit ≤ vec_capacity h.events
  pub small : h.limit ≤ most_events

-- the events that a walk has yet to come to
abbrev pub events_left : walk.Inside → List Event
events_left w = map event_in w.rest.now
