-- What is decided of events stays, whatever is chosen of what is open; so what the one breaks, the other does.
use Rattle.std.specs.Prelude.{◌≡◌, ℕ, ◌<◌, ◌≤◌, max, ◌==◌, Bool, true, false, ◌||◌, if◌then◌else◌, List, [], ◌∷◌, slice_get}
use Rattle.std.specs.Prelude.{Option, Some, None, IfSome}
use Rattle.litmus_tests.specs.declared.test.LitmusTest.{LitmusTest}
use Rattle.litmus_runs.specs.declared.runs.AllRuns.{AllRuns}
use Rattle.litmus_cycles.specs.declared.{event.MemoryEvent.MemoryEvent, open.Open.Open}
use Rattle.litmus_cycles.specs.declared.open.Open.TheVariants.{Place, Source}
use Rattle.litmus_cycles.specs.declared.demand.Demand.{Demand}
use Rattle.litmus_cycles.specs.Searched.{is_wanted}

-- The place of a location that is open here; 0 is none.
abbrev pub place_of : Open → ℕ → ℕ
place_of (Place here rank) location = if here == location then rank else 0
place_of (Source index) location = 0

-- The last one of a location's places that are open.
abbrev pub last_place : List Open → ℕ → ℕ
last_place [] location = 0
last_place (what ∷ rest) location = max (place_of what location) (last_place rest location)

-- The source of the event with this index is open.
abbrev pub is_source_of : Open → ℕ → Bool
is_source_of (Place here rank) index = false
is_source_of (Source here) index = here == index

abbrev pub is_open : List Open → ℕ → Bool
is_open [] index = false
is_open (what ∷ rest) index = is_source_of what index || is_open rest index

-- An event where all is decided is the one with this index, where that is open: a place and a source that it has stay,
-- and a place that it hasn't is one of those that are open.
pub record IsKept (rest : List Open) (index : ℕ) (event final : MemoryEvent) : Type 0 where
  pub hart : final.hart ≡ event.hart
  pub place : final.place ≡ event.place
  pub location : final.location ≡ event.location
  pub reads : final.reads ≡ event.reads
  pub writes : final.writes ≡ event.writes
  pub reserved : final.reserved_by ≡ event.reserved_by
  pub placed : 0 < event.rank → final.rank ≡ event.rank
  pub free : event.rank ≡ 0 → final.rank ≤ last_place rest event.location
  pub sourced : is_open rest index ≡ false → final.source ≡ event.source

abbrev pub KeptAt : List Open → ℕ → Option MemoryEvent → Option MemoryEvent → Type 0
KeptAt rest index None None = Unit {0}
KeptAt rest index None (Some final) = ⊥
KeptAt rest index (Some event) None = ⊥
KeptAt rest index (Some event) (Some final) = IsKept rest index event final

-- So are all events.
pub record AreKept (rest : List Open) (events final : List MemoryEvent) : Type 0 where
  pub each : (index : ℕ) → KeptAt rest index (slice_get events index) (slice_get final index)

-- Whichever candidate keeps what is decided here, it isn't wanted.
pub record NoneComes (test : LitmusTest) (runs : AllRuns) (chosen : List ℕ) (demand : Demand) (rest : List Open)
    (events : List MemoryEvent) : Type 0 where
  pub each : (final : List MemoryEvent) → AreKept rest events final → is_wanted test runs chosen demand final ≡ false

-- What is open has no source yet.
abbrev pub AreUnsourced : List Open → List MemoryEvent → Type 0
AreUnsourced rest events =
    (index : ℕ) → is_open rest index ≡ true → IfSome (slice_get events index) (λ event. event.source ≡ None)

-- A write has its place, and those of its location that are open are before it.
abbrev pub StandsLast : List Open → ℕ → List MemoryEvent → Type 0
StandsLast rest index events = IfSome (slice_get events index) (λ write. last_place rest write.location < write.rank)

-- An event has its source, and all writes of its location their places.
pub record IsGiven (rest : List Open) (index : ℕ) (events : List MemoryEvent) : Type 0 where
  pub sourced : is_open rest index ≡ false
  pub placed : IfSome (slice_get events index) (λ event. last_place rest event.location ≡ 0)

-- What was open is decided by this choice, before the rest.
abbrev pub IsDecided : List Open → Open → ℕ → List MemoryEvent → Type 0
IsDecided rest (Place location rank) choice events = StandsLast rest choice events
IsDecided rest (Source index) choice events = IsGiven rest index events

-- What is open is decided in such an order: the places of a location from the last one down, then each source once.
abbrev pub IsNext : List Open → Open → List MemoryEvent → Type 0
IsNext rest (Place location rank) events = last_place rest location < rank
IsNext rest (Source index) events = IsGiven rest index events

abbrev pub AreNext : List Open → List MemoryEvent → Type 0
AreNext [] events = Unit {0}
AreNext (what ∷ rest) events = IsNext rest what events × AreNext rest events

pub record IsReady (left : List Open) (events : List MemoryEvent) : Type 0 where
  pub next : AreNext left events
  pub unsourced : AreUnsourced left events

abbrev pub AreAllUnsourced : List MemoryEvent → Type 0
AreAllUnsourced events = (index : ℕ) → IfSome (slice_get events index) (λ event. event.source ≡ None)
