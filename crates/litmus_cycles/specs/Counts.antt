-- How many candidates there are: in how many orders the writes of each location may stand, and how many sources each read
-- may have.
use Rattle.std.specs.Prelude.{ℕ, zero, suc, ◌+◌, ◌*◌, Bool, false, not, if◌then◌else◌, List, [], ◌∷◌, ◌++◌, length}
use Rattle.std.specs.Prelude.{count_by, sum_by}
use Rattle.std.specs.Option.{option_map_or}
use Rattle.litmus_tests.specs.declared.test.LitmusTest.{LitmusTest}
use Rattle.litmus_runs.specs.declared.runs.{AllRuns.AllRuns, HartRuns.HartRuns}
use Rattle.litmus_cycles.specs.declared.event.MemoryEvent.{MemoryEvent}
use Rattle.litmus_cycles.specs.{Executions.is_read, Executions.is_write, Executions.is_others_write, Endings.asked_for}
use Rattle.litmus_cycles.specs.Choices.{after, writes_at, events_of, all_ways}

-- In how many orders so many writes may stand: their factorial.
abbrev pub orders : ℕ → ℕ
orders zero = 1
orders (suc count) = orders count * suc count

-- In how many the writes of so many locations may, those of each in an order of its own.
abbrev pub all_orders : List MemoryEvent → ℕ → ℕ
all_orders events zero = 1
all_orders events (suc location) = all_orders events location * orders (writes_at location events)

-- How many sources an event may have: a read each write of its location and the start, an AMO each but its own write; a
-- store-conditional that fails each write of another hart. What only writes has none to choose.
abbrev pub sources_of : List MemoryEvent → MemoryEvent → ℕ
sources_of events event =
    if is_read event then
    (if is_write event then writes_at event.location events else after (writes_at event.location events))
    else (if is_write event then 1 else count_by (λ write. is_others_write event write) events)

abbrev pub all_sources : List MemoryEvent → List MemoryEvent → ℕ
all_sources all [] = 1
all_sources all (event ∷ events) = sources_of all event * all_sources all events

-- How many candidates these events have.
abbrev pub combinations : List MemoryEvent → ℕ → ℕ
combinations events locations = all_orders events locations * all_sources events events

-- The registers at the end of these ways rule out the test's filter or its condition.
abbrev pub is_ruled_out : LitmusTest → AllRuns → List ℕ → Bool
is_ruled_out test runs chosen = option_map_or (λ holds. not holds) (asked_for test runs chosen false []) false

-- How many candidates these ways have; none is counted where they are ruled out.
abbrev pub count_of : LitmusTest → AllRuns → List ℕ → ℕ
count_of test runs chosen = if is_ruled_out test runs chosen then 0
    else combinations (events_of runs.harts.items 0 0 chosen) (length test.words.items)

-- How many these ways of the first harts have, with each choice of ways of the others.
abbrev pub count_behind : LitmusTest → AllRuns → List ℕ → List HartRuns → ℕ
count_behind test runs chosen left = sum_by (λ others. count_of test runs (chosen ++ others)) (all_ways left)

-- How many there are of each choice of ways.
abbrev pub count_all : LitmusTest → AllRuns → ℕ
count_all test runs = count_behind test runs [] runs.harts.items
