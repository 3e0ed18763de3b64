-- What a pass counts of its actor, and when that is all that the history holds of it; how many asks were idle.
use Rattle.std.specs.Prelude.{◌≡◌, ℕ, ◌+◌, List, Option, Some, None, slice_index_or, slice_set}
use Rattle.std.specs.Io.Iter.{u64_saturate}
use Rattle.numbers.specs.Sizes.{most_actors}
use Rattle.events.specs.declared.event.Event.{Event}
use Rattle.smt_model.specs.{Basics.below, Basics.how_many, Account.event_count}
use Rattle.smt_model.specs.{Account.last_event_of, Memory.is_going}
use Rattle.core_state.specs.View.{CoreView}
use Rattle.core_lock.specs.declared.ask.Said.{Said}
use Rattle.core_lock.specs.declared.ask.Said.TheVariants as said

-- A count and a last event, after a step where one was made.
abbrev pub more : ℕ → Option Event → ℕ
more count None = count
more count (Some e) = count + 1

abbrev pub later : Option Event → Option Event → Option Event
later last None = last
later last (Some e) = Some e

-- A count of the asks that were answered idle, after one more answer. It stays at the greatest number of
-- 64 bits once it is there.
abbrev pub more_idle : ℕ → Said → ℕ
more_idle idle said.Idle = u64_saturate (idle + 1)
more_idle idle (said.Event e) = idle
more_idle idle (said.Job job e) = idle
more_idle idle said.Stranger = idle
more_idle idle said.Full = idle

-- Such counts of all actors, each at its actor's place, after one more reply to an actor: an idle one is one more of
-- that actor, and no other reply changes any.
abbrev pub idle_after : ℕ → Said → List ℕ → List ℕ
idle_after actor said idle = slice_set idle actor (more_idle (slice_index_or idle actor 0) said)

-- The count and the last event are those of this actor in the history.
pub record IsTold (past : List Event) (actor count : ℕ) (last : Option Event) : Type 0 where
  pub counts : count ≡ event_count actor past
  pub ends : last ≡ last_event_of actor past

-- A pass that is dealt is this actor's, and was told all that the history holds of it.
abbrev pub IsDealt : List Event → ℕ → ℕ → ℕ → Option Event → Type 0
IsDealt past k actor count last = (actor ≡ k) × IsTold past k count last

-- How many harts are going.
abbrev pub going_in : CoreView → ℕ
going_in core = how_many (is_going core.past) (below core.setup.harts)

-- The actors that there may be.
abbrev pub places : List ℕ
places = below most_actors
