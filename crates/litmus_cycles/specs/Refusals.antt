-- By what it is seen that nothing may come of what is decided: of two events each.
use Rattle.std.specs.Prelude.{ℕ, ◌-◌, ◌==◌, nat_lt, Bool, true, false, not, ◌&&◌, ◌||◌, if◌then◌else◌, List, Option}
use Rattle.std.specs.{Option.option_map_or, List.list_all, List.list_any}
use Rattle.litmus_tests.specs.declared.test.LitmusTest.{LitmusTest}
use Rattle.litmus_runs.specs.{declared.runs.AllRuns.AllRuns, Numbers.initial_number}
use Rattle.litmus_cycles.specs.declared.demand.Demand.{Demand}
use Rattle.litmus_cycles.specs.declared.demand.Demand.TheVariants.{Numbers, Writes, Coherent, Whole}
use Rattle.litmus_cycles.specs.declared.{event.MemoryEvent.MemoryEvent}
use Rattle.litmus_cycles.specs.Executions.{is_read, is_write, has_number, written_at, load_of, is_failing}
use Rattle.litmus_cycles.specs.OneOrder.{are_own_in_order, keeps_order, writes_behind, parts}
use Rattle.litmus_cycles.specs.{Choices.writes_at, Endings.may_end}

-- The number of a read is there at the start, or written to its location.
abbrev pub has_write : LitmusTest → List MemoryEvent → MemoryEvent → Bool
has_write test events event =
    option_map_or (λ number. has_number number (initial_number test event.location)
    || list_any (λ write. has_number number (written_at write event.location)) events) event.reads true

-- A write stands before another one, where that is its hart's, to its location and behind it in program order.
abbrev pub stands_before : MemoryEvent → MemoryEvent → Bool
stands_before write other = not (nat_lt write.place other.place) || are_own_in_order write other

-- A load is that of an AMO, or goes before its store-conditional at its location.
abbrev pub goes_before : MemoryEvent → MemoryEvent → Bool
goes_before load store =
    is_read store
    || (load.hart == store.hart && load.location == store.location && nat_lt load.place store.place && not (is_write load))

abbrev pub may_read_that : MemoryEvent → Option ℕ → Bool
may_read_that load given = option_map_or (λ number. has_number number given) load.reads true

-- What goes with a store may read this number, which stands right before it.
abbrev pub may_follow : List MemoryEvent → MemoryEvent → Option ℕ → Bool
may_follow events store given =
    option_map_or (λ load. not (goes_before load store) || may_read_that load given) (load_of events store) true

-- A write stands right before a store of its location.
abbrev pub is_next : MemoryEvent → MemoryEvent → Bool
is_next write store =
    store.location == write.location && is_write write && is_write store && nat_lt 0 write.rank && store.rank - 1 == write.rank

-- It is the own one of the store's hart, and not before the load that goes with the store.
abbrev pub is_own_behind : List MemoryEvent → MemoryEvent → MemoryEvent → Bool
is_own_behind events write store =
    option_map_or (λ load. write.hart == store.hart && not (nat_lt write.place load.place)) (load_of events store) true

-- What goes with a store may read the number of the write that stands right before it.
abbrev pub is_handed_to : List MemoryEvent → MemoryEvent → MemoryEvent → Bool
is_handed_to events write store =
    not (is_next write store) || is_own_behind events write store || may_follow events store write.writes

-- An event goes on from another one before it on its hart; a write behind it goes on from it.
abbrev pub is_ahead : List MemoryEvent → MemoryEvent → MemoryEvent → Bool
is_ahead events event other = not (nat_lt other.place event.place) || keeps_order events other event

abbrev pub is_behind : List MemoryEvent → MemoryEvent → MemoryEvent → Bool
is_behind events event other = not (nat_lt event.place other.place) || is_read other || keeps_order events event other

-- No other hart's write parts a store-conditional from the event with this index, its load-reserved.
abbrev pub is_whole_with : List MemoryEvent → ℕ → MemoryEvent → Bool
is_whole_with events index store =
    is_read store || not (has_number index store.reserved_by) || list_all (λ write. not (parts events write store)) events

-- What a demand asks for: the order of a hart's writes; coherence; whole AMOs and store-conditionals.
abbrev pub orders_writes : Demand → Bool
orders_writes Numbers = false
orders_writes Writes = true
orders_writes Coherent = true
orders_writes Whole = true

abbrev pub orders_all : Demand → Bool
orders_all Numbers = false
orders_all Writes = false
orders_all Coherent = true
orders_all Whole = true

abbrev pub asks_whole : Demand → Bool
asks_whole Numbers = false
asks_whole Writes = false
asks_whole Coherent = false
asks_whole Whole = true

-- What goes with the first write of a location may read what is there at the start.
abbrev pub may_be_first : LitmusTest → List MemoryEvent → MemoryEvent → Bool
may_be_first test events write =
    not (write.rank == 1) || not (is_write write) || may_follow events write (initial_number test write.location)

abbrev pub is_handed_on : LitmusTest → List MemoryEvent → MemoryEvent → Bool
is_handed_on test events write = may_be_first test events write && list_all (is_handed_to events write) events

-- A write may have the place that it has been given.
abbrev pub may_have_place : LitmusTest → AllRuns → List ℕ → Demand → List MemoryEvent → MemoryEvent → Bool
may_have_place test runs chosen demand events write =
    (not (orders_writes demand) || list_all (stands_before write) events)
    && (not (asks_whole demand) || is_handed_on test events write)
    && (nat_lt write.rank (writes_at write.location events) || may_end test runs chosen events)

abbrev pub is_in_order : List MemoryEvent → MemoryEvent → Bool
is_in_order events event =
    writes_behind events event && list_all (is_ahead events event) events && list_all (is_behind events event) events

abbrev pub is_whole_at : List MemoryEvent → ℕ → MemoryEvent → Bool
is_whole_at events index event =
    list_all (λ write. not (parts events write event)) events && list_all (is_whole_with events index) events

-- An event may have the source that it has been given.
abbrev pub may_have_source : Demand → List MemoryEvent → ℕ → MemoryEvent → Bool
may_have_source demand events index event =
    if not (is_read event) then is_failing events event
    else (not (orders_all demand) || is_in_order events event) && (not (asks_whole demand) || is_whole_at events index event)
