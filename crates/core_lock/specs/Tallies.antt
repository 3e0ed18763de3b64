-- What a history holds of each actor, at the actor's place in a row.
use Rattle.std.specs.Prelude.{◌≡◌, ℕ, ◌<◌, List, Option, Some, None, slice_get}
use Rattle.events.specs.declared.event.Event.{Event}
use Rattle.core_lock.specs.{Passes.IsTold, declared.tally.Made.Made}

-- The event at a place, if there is a place.
abbrev pub event_at : List Event → Option ℕ → Option Event
event_at events None = None
event_at events (Some place) = slice_get events place

-- At each place k stand the count of actor k's events, and where among all events the last of them is.
abbrev pub AreMade : List Event → List Event → List Made → Type 0
AreMade past events made =
    (k : ℕ) (m : Made) → slice_get made k ≡ Some m → IsTold past k m.count (event_at events m.last)

-- Each count is below n.
abbrev pub AreBelow : ℕ → List Made → Type 0
AreBelow n made = (k : ℕ) (m : Made) → slice_get made k ≡ Some m → m.count < n
