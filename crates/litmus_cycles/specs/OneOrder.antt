-- Coherence: each hart sees each location in one order; and AMOs and store-conditionals that are whole.
-- [Alglave, Maranget and Tautschnig 2014, "Herding Cats": SC per location, by its five patterns, and atomicity]
use Rattle.std.specs.Prelude.{ℕ, ◌==◌, nat_lt, nat_le, Bool, not, ◌&&◌, ◌||◌, if◌then◌else◌}
use Rattle.std.specs.Prelude.{List}
use Rattle.std.specs.List.{list_all}
use Rattle.litmus_cycles.specs.declared.event.MemoryEvent.{MemoryEvent}
use Rattle.litmus_cycles.specs.Executions.{is_read, is_write, source_rank, all_pairs, is_others_write, reads_older}

-- Where in coherence order its hart stands behind an event: at what it writes, else at what it reads.
abbrev pub rank_behind : List MemoryEvent → MemoryEvent → ℕ
rank_behind events event = if is_write event then event.rank else source_rank events event

-- The other reads nothing older than where the hart stands behind the one, and writes behind that.
abbrev pub goes_on : List MemoryEvent → MemoryEvent → MemoryEvent → Bool
goes_on events a b =
    (not (is_read b) || nat_le (rank_behind events a) (source_rank events b))
    && (not (is_write b) || nat_lt (rank_behind events a) b.rank)

-- Of two accesses of one hart to one location, the first before the other.
abbrev pub keeps_order : List MemoryEvent → MemoryEvent → MemoryEvent → Bool
keeps_order events a b =
    not (a.hart == b.hart && a.location == b.location && (is_read a || is_write a)) || goes_on events a b

-- An AMO writes behind what it reads.
abbrev pub writes_behind : List MemoryEvent → MemoryEvent → Bool
writes_behind events event = not (is_read event && is_write event) || nat_lt (source_rank events event) event.rank

-- Of two writes of one hart to one location the first stands before the other.
abbrev pub are_own_in_order : MemoryEvent → MemoryEvent → Bool
are_own_in_order a b =
    not (a.hart == b.hart && a.location == b.location && is_write a && is_write b) || nat_lt a.rank b.rank

abbrev pub is_coherent_execution : List MemoryEvent → Bool
is_coherent_execution events = all_pairs (keeps_order events) events && list_all (writes_behind events) events

-- Another hart's write stands between what is read and what is written.
abbrev pub parts : List MemoryEvent → MemoryEvent → MemoryEvent → Bool
parts events write store =
    is_write store && is_others_write store write && nat_lt write.rank store.rank
    && reads_older events store write.rank

abbrev pub is_whole_execution : List MemoryEvent → Bool
is_whole_execution events = list_all (λ store. list_all (λ write. not (parts events write store)) events) events
