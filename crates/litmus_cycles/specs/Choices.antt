-- The candidates of a choice of ways: one after the other it is chosen which write stands at each place of the coherence
-- order of its location (co), which write each read reads, if not the start (rf), and which write broke each
-- store-conditional that fails. [Alglave, Maranget and Tautschnig 2014, "Herding Cats": candidate executions]
use Rattle.std.specs.Prelude.{ℕ, zero, suc, ◌+◌, ◌-◌, ◌^◌, min, ◌==◌, nat_lt, Bool, false, not}
use Rattle.std.specs.Prelude.{◌&&◌, ◌||◌, if◌then◌else◌, List, [], ◌∷◌, ◌++◌, length, map, slice_get, slice_set}
use Rattle.std.specs.Prelude.{Some, None}
use Rattle.std.specs.Option.{option_map_or}
use Rattle.litmus_tests.specs.declared.test.LitmusTest.{LitmusTest}
use Rattle.litmus_runs.specs.declared.access.Access.{Access}
use Rattle.litmus_runs.specs.declared.runs.{HartRuns.HartRuns}
use Rattle.litmus_runs.specs.Numbers.{initial_number}
use Rattle.litmus_cycles.specs.declared.{event.MemoryEvent.MemoryEvent, open.Open.Open}
use Rattle.litmus_cycles.specs.declared.open.Open.TheVariants.{Place, Source}
use Rattle.litmus_cycles.specs.Executions.{is_read, is_write, has_number, written_at, is_others_write}

-- The next index: there are never so many that it would be the same one.
abbrev pub after : ℕ → ℕ
after index = min (index + 1) (2 ^ 64 - 1)

-- How many of these events write a location.
abbrev pub writes_at : ℕ → List MemoryEvent → ℕ
writes_at location [] = 0
writes_at location (event ∷ events) =
    if event.location == location && is_write event then after (writes_at location events) else writes_at location events

-- The places of a location's coherence order, the last one first.
abbrev pub places : ℕ → ℕ → List Open
places location zero = []
places location (suc count) = Place location (suc count) ∷ places location count

-- It reads, or is a store-conditional that fails.
abbrev pub has_source : MemoryEvent → Bool
has_source event = is_read event || not (is_write event)

-- Those of these events that read a location, or fail to write there; the first of them has this index.
abbrev pub sources : ℕ → ℕ → List MemoryEvent → List Open
sources location index [] = []
sources location index (event ∷ events) =
    (if event.location == location && has_source event then Source index ∷ [] else [])
    ++ sources location (after index) events

-- What is to be decided of a location, and of so many locations from this one on.
abbrev pub open_at : List MemoryEvent → ℕ → List Open
open_at events location = places location (writes_at location events) ++ sources location 0 events

abbrev pub all_open : List MemoryEvent → ℕ → ℕ → List Open
all_open events location zero = []
all_open events location (suc left) = open_at events location ++ all_open events (after location) left

-- It is a write of the location that has no place yet.
abbrev pub may_place : List MemoryEvent → ℕ → ℕ → Bool
may_place events location choice =
    option_map_or (λ event. event.location == location && is_write event && event.rank == 0) (slice_get events choice) false

-- The event may read what is there at the start: its number is.
abbrev pub may_start : LitmusTest → MemoryEvent → Bool
may_start test event = option_map_or (λ number. has_number number (initial_number test event.location)) event.reads false

-- It may read what the other writes: its number, to its location; a store-conditional that fails may have been broken by
-- another hart's write to its location.
abbrev pub may_have : MemoryEvent → MemoryEvent → Bool → Bool
may_have event write is_itself =
    option_map_or (λ number. not is_itself && has_number number (written_at write event.location)) event.reads
    (is_others_write event write)

abbrev pub may_give : LitmusTest → List MemoryEvent → ℕ → ℕ → Bool
may_give test events index choice =
    option_map_or (λ event.
    option_map_or (λ write. may_have event write (choice == index)) (slice_get events choice) (may_start test event))
    (slice_get events index) false

-- What is open may be decided by this choice: the event with that index, or, one past the last, the start.
abbrev pub may_choose : LitmusTest → Open → ℕ → List MemoryEvent → Bool
may_choose test (Place location rank) choice events = may_place events location choice
may_choose test (Source index) choice events = may_give test events index choice

abbrev pub with_rank : List MemoryEvent → ℕ → ℕ → List MemoryEvent
with_rank events index rank =
    option_map_or (λ event. slice_set events index (record event { rank = rank })) (slice_get events index) events

abbrev pub with_source : List MemoryEvent → ℕ → ℕ → List MemoryEvent
with_source events index choice =
    option_map_or (λ event. slice_set events index (record event {
      source = if nat_lt choice (length events) then Some choice else None;
    })) (slice_get events index) events

-- The events where what is open is decided so.
abbrev pub with_choice : Open → ℕ → List MemoryEvent → List MemoryEvent
with_choice (Place location rank) choice events = with_rank events choice rank
with_choice (Source index) choice events = with_source events index choice

-- What a function gives of so many indices from 0 on, joined.
abbrev pub joined : {X : Type 0} → (ℕ → List X) → ℕ → List X
joined each zero = []
joined each (suc count) = joined each count ++ each count

-- What comes of this choice of what is open first, by what comes of the events where it is made: nothing where it can't be.
abbrev pub come_of : LitmusTest → (List MemoryEvent → List (List MemoryEvent)) → Open → List MemoryEvent → ℕ
    → List (List MemoryEvent)
come_of test behind first events choice =
    if may_choose test first choice events then behind (with_choice first choice events) else []

-- All that comes of events where all that is open is decided, one after the other: first by the start, then by each
-- event, the last one first.
abbrev pub come : LitmusTest → List Open → List MemoryEvent → List (List MemoryEvent)
come test [] events = events ∷ []
come test (first ∷ rest) events =
    joined (λ turn. come_of test (come test rest) first events (length events - turn)) (suc (length events))

-- An access of a hart as an event of which nothing is decided.
abbrev pub undecided : ℕ → ℕ → ℕ → Access → MemoryEvent
undecided hart first place access = record {
  hart = min hart 255;
  place = place;
  step = access.step;
  location = access.location;
  reads = access.reads;
  writes = access.writes;
  source = None;
  rank = 0;
  reserved_by = option_map_or (λ index. Some (min (first + index) (2 ^ 64 - 1))) access.reserved_by None;
}

abbrev pub undecided_all : ℕ → ℕ → ℕ → List Access → List MemoryEvent
undecided_all hart first place [] = []
undecided_all hart first place (access ∷ accesses) =
    undecided hart first place access ∷ undecided_all hart first (after place) accesses

-- What the way of a hart with this index does with memory.
abbrev pub accesses_of : List HartRuns → ℕ → ℕ → List Access
accesses_of harts hart index =
    option_map_or (λ found. option_map_or (λ run. run.accesses.items) (slice_get found.runs.items index) [])
    (slice_get harts hart) []

-- The events of the ways that are chosen from this hart on, of whose first one this is the index.
abbrev pub events_of : List HartRuns → ℕ → ℕ → List ℕ → List MemoryEvent
events_of harts hart first [] = []
events_of harts hart first (index ∷ chosen) =
    undecided_all hart first 0 (accesses_of harts hart index)
    ++ events_of harts (after hart) (first + length (accesses_of harts hart index)) chosen

-- All choices of one way of each hart.
abbrev pub all_ways : List HartRuns → List (List ℕ)
all_ways [] = [] ∷ []
all_ways (hart ∷ harts) = joined (λ index. map (λ chosen. index ∷ chosen) (all_ways harts)) (length hart.runs.items)

-- The candidates of these ways: their events with all that is open decided.
abbrev pub candidates_of : LitmusTest → List HartRuns → List ℕ → List (List MemoryEvent)
candidates_of test harts chosen =
    let events = events_of harts 0 0 chosen in
    come test (all_open events 0 (length test.words.items)) events
