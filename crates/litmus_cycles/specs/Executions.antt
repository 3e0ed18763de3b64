-- How the accesses of an execution are related, what a cycle of them is, and what a candidate execution.
-- [Shasha and Snir 1988; Alglave, Maranget and Tautschnig 2014, "Herding Cats"]
use Rattle.std.specs.Prelude.{ℕ, ◌==◌, nat_lt, Bool, true, false, not, ◌&&◌, ◌||◌, if◌then◌else◌}
use Rattle.std.specs.Prelude.{List, [], ◌∷◌, length, slice_get, Option, Some, None, is_some, option_and_then}
use Rattle.std.specs.{Option.option_map_or, List.list_all}
use Rattle.litmus_tests.specs.declared.test.LitmusTest.{LitmusTest}
use Rattle.litmus_runs.specs.Numbers.{initial_number}
use Rattle.rv_instr.specs.{declared.kind.Kind.Kind, Kinds.kind_of_instr}
use Rattle.rv_instr.specs.declared.kind.Kind.TheVariants.{Computing, Loading, Storing, Reserving, Conditional, Atomic}
use Rattle.litmus_tests.specs.declared.step.LitmusStep.{LitmusStep}
use Rattle.litmus_tests.specs.declared.step.LitmusStep.TheVariants.{Straight, Constant, Branch, Fence}
use Rattle.litmus_cycles.specs.declared.{event.MemoryEvent.MemoryEvent, event.Relation.Relation, event.Edge.Edge}
use Rattle.litmus_cycles.specs.declared.explanation.Broken.{Broken}
use Rattle.litmus_cycles.specs.declared.event.Relation.TheVariants.{ProgramOrder, ReadsFrom, Coherence}
use Rattle.litmus_cycles.specs.declared.event.Relation.TheVariants.{FromRead, Breaks}

abbrev pub is_read : MemoryEvent → Bool
is_read event = is_some event.reads

abbrev pub is_write : MemoryEvent → Bool
is_write event = is_some event.writes

-- Its source is the event with this index.
abbrev pub has_source : MemoryEvent → ℕ → Bool
has_source event index = option_map_or (λ source. source == index) event.source false

-- Where in coherence order what it reads stands: 0 is what is there at the start.
abbrev pub source_rank : List MemoryEvent → MemoryEvent → ℕ
source_rank events event =
    option_map_or (λ source. source.rank) (option_and_then (λ index. slice_get events index) event.source) 0

-- po: both are of one hart, the one before the other.
abbrev pub is_ordered : MemoryEvent → MemoryEvent → Bool
is_ordered a b = a.hart == b.hart && nat_lt a.place b.place

-- rf: the other reads what the one with this index has written.
abbrev pub reads_from : ℕ → MemoryEvent → Bool
reads_from from b = is_read b && has_source b from

-- co: both write one location, the one before the other.
abbrev pub is_coherent : MemoryEvent → MemoryEvent → Bool
is_coherent a b = is_write a && is_write b && a.location == b.location && nat_lt a.rank b.rank

-- fr: what the one reads stands before what the other writes; these aren't one event.
abbrev pub reads_before : List MemoryEvent → Edge → MemoryEvent → MemoryEvent → Bool
reads_before events edge a b =
    is_read a && is_write b && a.location == b.location && nat_lt (source_rank events a) b.rank
    && not (edge.from == edge.to)

-- The one with this index breaks the reservation that the other, a store-conditional that fails, lacks.
abbrev pub breaks : ℕ → MemoryEvent → Bool
breaks from b = not (is_read b) && not (is_write b) && has_source b from

-- The events a and b are related so; the edge has their indices.
abbrev pub relates : Relation → List MemoryEvent → Edge → MemoryEvent → MemoryEvent → Bool
relates ProgramOrder events edge a b = is_ordered a b
relates ReadsFrom events edge a b = reads_from edge.from b
relates Coherence events edge a b = is_coherent a b
relates FromRead events edge a b = reads_before events edge a b
relates Breaks events edge a b = breaks edge.from b

-- Both events are there, and related so.
abbrev pub is_edge : List MemoryEvent → Edge → Bool
is_edge events edge =
    option_map_or (λ a. option_map_or (λ b. relates edge.relation events edge a b) (slice_get events edge.to) false)
    (slice_get events edge.from) false

-- Each edge begins where the one before it ends, from one event to another.
abbrev pub leads : ℕ → List Edge → ℕ → Bool
leads from [] to = from == to
leads from (edge ∷ edges) to = edge.from == from && leads edge.to edges to

-- Edges that lead from an event back to it.
abbrev pub is_closed : List Edge → Bool
is_closed [] = false
is_closed (edge ∷ edges) = leads edge.to edges edge.from

abbrev pub is_cycle : List MemoryEvent → List Edge → Bool
is_cycle events edges = list_all (is_edge events) edges && is_closed edges

-- Edges between accesses to one location.
abbrev pub stays : List MemoryEvent → Edge → Bool
stays events edge = option_map_or (λ a. option_map_or (λ b. a.location == b.location) (slice_get events edge.to) false)
    (slice_get events edge.from) false

abbrev pub stays_at_one_location : List MemoryEvent → List Edge → Bool
stays_at_one_location events edges = list_all (stays events) edges

-- What an event writes to a location.
abbrev pub written_at : MemoryEvent → ℕ → Option ℕ
written_at event location = if event.location == location then event.writes else None

-- It is there, and this number.
abbrev pub has_number : ℕ → Option ℕ → Bool
has_number number given = option_map_or (λ found. found == number) given false

-- The number that its source gives an event: the start, or the write of another one to its location.
abbrev pub given_by : Option ℕ → LitmusTest → List MemoryEvent → MemoryEvent → Option ℕ
given_by None test events event = initial_number test event.location
given_by (Some index) test events event =
    option_and_then (λ source. written_at source event.location) (slice_get events index)

-- What it reads is that number.
abbrev pub is_sourced : LitmusTest → List MemoryEvent → MemoryEvent → Bool
is_sourced test events event =
    option_map_or (λ number. has_number number (given_by event.source test events event)) event.reads true

-- A write has a place in coherence order.
abbrev pub is_ranked : MemoryEvent → Bool
is_ranked event = not (is_write event) || nat_lt 0 event.rank

-- The one stands before the other: on a lower hart, or before it on its own.
abbrev pub is_before : MemoryEvent → MemoryEvent → Bool
is_before a b = nat_lt a.hart b.hart || (a.hart == b.hart && nat_lt a.place b.place)

-- They aren't two writes to one location with one place in coherence order.
abbrev pub are_apart : MemoryEvent → MemoryEvent → Bool
are_apart a b = not (is_write a && is_write b && a.location == b.location && a.rank == b.rank)

-- Each event passes with each later one.
abbrev pub all_pairs : (MemoryEvent → MemoryEvent → Bool) → List MemoryEvent → Bool
all_pairs test [] = true
all_pairs test (event ∷ events) = list_all (test event) events && all_pairs test events

-- An instruction of this kind reads and writes as the event does: a store-conditional may fail.
abbrev pub accesses_as : Kind → MemoryEvent → Bool
accesses_as Computing event = false
accesses_as Loading event = is_read event && not (is_write event)
accesses_as Storing event = not (is_read event) && is_write event
accesses_as Reserving event = is_read event && not (is_write event)
accesses_as Conditional event = not (is_read event)
accesses_as Atomic event = is_read event && is_write event

abbrev pub does_as : LitmusStep → MemoryEvent → Bool
does_as (Straight instruction) event = accesses_as (kind_of_instr instruction) event
does_as (Constant register value) event = false
does_as (Branch op left right target) event = false
does_as (Fence fence) event = false

-- Its step is one of its hart, and accesses memory so.
abbrev pub is_made : LitmusTest → MemoryEvent → Bool
is_made test event =
    option_map_or (λ thread. option_map_or (λ step. does_as step event) (slice_get thread.steps.items event.step) false)
    (slice_get test.threads.items event.hart) false

-- The event whose read goes with an access: itself where it reads, the load-reserved of a store-conditional.
abbrev pub load_of : List MemoryEvent → MemoryEvent → Option MemoryEvent
load_of events event =
    if is_read event then Some event else option_and_then (λ index. slice_get events index) event.reserved_by

-- That event has read something before this place in coherence order.
abbrev pub reads_older : List MemoryEvent → MemoryEvent → ℕ → Bool
reads_older events event rank =
    option_map_or (λ load. nat_lt (source_rank events load) rank) (load_of events event) false

-- Another hart's write to the location of an event; its source is one.
abbrev pub is_others_write : MemoryEvent → MemoryEvent → Bool
is_others_write event write = is_write write && write.location == event.location && not (write.hart == event.hart)

abbrev pub is_broken_by_other : List MemoryEvent → MemoryEvent → Bool
is_broken_by_other events event = option_map_or (λ write. is_others_write event write)
    (option_and_then (λ index. slice_get events index) event.source) false

-- A store-conditional that fails was broken by such a write, behind what its load-reserved has read.
abbrev pub is_failing : List MemoryEvent → MemoryEvent → Bool
is_failing events event =
    is_read event || is_write event
    || (is_broken_by_other events event && reads_older events event (source_rank events event))

-- A candidate: its events in program order, hart by hart, each made by a step; each read reads what its source has
-- written, or what is there at the start; each write has a place of its own in the coherence order of its location;
-- each store-conditional that fails was broken.
abbrev pub is_candidate : LitmusTest → List MemoryEvent → Bool
is_candidate test events =
    all_pairs is_before events && list_all (is_made test) events && list_all (is_sourced test events) events
    && list_all is_ranked events && all_pairs are_apart events && list_all (is_failing events) events

-- An AMO is its own load, and a store-conditional goes with its load-reserved.
abbrev pub goes_with : MemoryEvent → Broken → Bool
goes_with store broken =
    if is_read store then broken.load == broken.store else has_number broken.load store.reserved_by

-- The write stands between what the load has read and what the AMO, or the store-conditional that goes with it, writes.
abbrev pub is_between : List MemoryEvent → Broken → MemoryEvent → MemoryEvent → MemoryEvent → Bool
is_between events broken load write store =
    is_write store && goes_with store broken
    && is_write write && write.location == store.location && not (write.hart == store.hart)
    && nat_lt (source_rank events load) write.rank && nat_lt write.rank store.rank

abbrev pub is_broken : List MemoryEvent → Broken → Bool
is_broken events broken =
    option_map_or (λ load.
    option_map_or (λ write.
    option_map_or (λ store. is_between events broken load write store) (slice_get events broken.store) false)
    (slice_get events broken.between) false)
    (slice_get events broken.load) false

-- The one is related to the other in some way.
abbrev pub is_related : List MemoryEvent → ℕ → ℕ → Bool
is_related events from to =
    is_edge events (record { from = from; relation = ProgramOrder; to = to })
    || is_edge events (record { from = from; relation = ReadsFrom; to = to })
    || is_edge events (record { from = from; relation = Coherence; to = to })
    || is_edge events (record { from = from; relation = FromRead; to = to })
    || is_edge events (record { from = from; relation = Breaks; to = to })

-- No later one of these is related to an earlier one, and none comes twice: with all events among them, there is
-- no cycle.
abbrev pub is_forward : List MemoryEvent → List ℕ → Bool
is_forward events [] = true
is_forward events (index ∷ later) =
    list_all (λ other. not (is_related events other index) && not (other == index)) later && is_forward events later

-- An order of all events in which every edge goes forward.
abbrev pub is_order : List MemoryEvent → List ℕ → Bool
is_order events order =
    length order == length events && list_all (λ index. nat_lt index (length events)) order
    && is_forward events order
