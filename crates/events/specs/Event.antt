-- What an event says of its own.

use Rattle.std.specs.Prelude.{ℕ}
use Rattle.events.specs.declared.event.Event.{Event}
use Rattle.events.specs.declared.event.Event.TheVariants.{Fetch, Decode, Rename, Issue, Complete}
use Rattle.events.specs.declared.event.Event.TheVariants.{Drop, Retire, Refetch}

-- the actor that made an event
abbrev pub actor_of : Event → ℕ
actor_of (Fetch actor hart seq pc word predicted) = actor
actor_of (Decode actor seq) = actor
actor_of (Rename actor seq phys) = actor
actor_of (Issue actor seq) = actor
actor_of (Complete actor seq outcome) = actor
actor_of (Drop actor seq) = actor
actor_of (Retire actor seq effect) = actor
actor_of (Refetch actor seq) = actor

-- the number of the instruction that an event moves on
abbrev pub seq_of : Event → ℕ
seq_of (Fetch actor hart seq pc word predicted) = seq
seq_of (Decode actor seq) = seq
seq_of (Rename actor seq phys) = seq
seq_of (Issue actor seq) = seq
seq_of (Complete actor seq outcome) = seq
seq_of (Drop actor seq) = seq
seq_of (Retire actor seq effect) = seq
seq_of (Refetch actor seq) = seq
