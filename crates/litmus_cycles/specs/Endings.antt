-- Whether a condition holds where harts have chosen their ways, and where all have, of their events at the end; none
-- where that can't be said yet.
use Rattle.std.specs.Prelude.{ℕ, ◌/◌, ◌%◌, ◌^◌, ◌==◌, Bool, true, false, not, ◌&&◌, if◌then◌else◌}
use Rattle.std.specs.Prelude.{List, [], ◌∷◌, slice_get, Option, Some, None, option_and_then}
use Rattle.std.specs.Option.{option_map, option_map_or}
use Rattle.litmus_tests.specs.declared.{test.LitmusTest.LitmusTest, location.Location.Location}
use Rattle.litmus_tests.specs.declared.condition.{Observed.Observed, Term.Term}
use Rattle.litmus_tests.specs.declared.condition.Observed.TheVariants as observed
use Rattle.litmus_tests.specs.declared.condition.Condition.{Condition, Always, Holds, Not', Both', Either', Implies', Equivalent'}
use Rattle.litmus_tests.specs.Conditions.{narrowed}
use Rattle.litmus_runs.specs.{declared.runs.AllRuns.AllRuns, Numbers.initial_number, Numbers.word_of}
use Rattle.litmus_cycles.specs.{declared.event.MemoryEvent.MemoryEvent, Executions.is_write, Choices.writes_at}

abbrev pub negated : Option Bool → Option Bool
negated (Some holds) = Some (not holds)
negated None = None

-- Both hold: not where one doesn't, though nothing can be said of the other.
abbrev pub both : Option Bool → Option Bool → Option Bool
both (Some false) second = Some false
both (Some true) second = second
both None (Some false) = Some false
both None (Some true) = None
both None None = None

abbrev pub either : Option Bool → Option Bool → Option Bool
either (Some true) second = Some true
either (Some false) second = second
either None (Some true) = Some true
either None (Some false) = None
either None None = None

abbrev pub alike : Option Bool → Option Bool → Option Bool
alike (Some true) second = second
alike (Some false) second = negated second
alike None second = None

-- Of what is looked at, the number that is known.
abbrev pub Known : Type 0
Known = Observed → Option ℕ

abbrev pub meets_term : Known → Term → Option Bool
meets_term known term =
    option_map (λ found. found == narrowed term.width (word_of term.value)) (known term.observed)

abbrev pub meets : Known → Condition → Option Bool
meets known Always = Some true
meets known (Holds term) = meets_term known term
meets known (Not' p condition) = negated (meets known condition)
meets known (Both' p first q second) = both (meets known first) (meets known second)
meets known (Either' p first q second) = either (meets known first) (meets known second)
meets known (Implies' p first q second) = either (negated (meets known first)) (meets known second)
meets known (Equivalent' p first q second) = alike (meets known first) (meets known second)

-- What a hart's register holds at the end of its way.
abbrev pub register_of : AllRuns → List ℕ → ℕ → ℕ → Option ℕ
register_of runs chosen hart register =
    option_and_then (λ index.
    option_and_then (λ found.
    option_and_then (λ run. slice_get run.registers register) (slice_get found.runs.items index))
    (slice_get runs.harts.items hart))
    (slice_get chosen hart)

-- The number that a location has in its word: the lowest byte stands first.
abbrev pub part_of : ℕ → Location → ℕ
part_of word location = narrowed location.number_type.width
    (if location.byte % 4 == 0 then word else
    if location.byte % 4 == 1 then word / 2 ^ 8 else
    if location.byte % 4 == 2 then word / 2 ^ 16 else word / 2 ^ 24)

-- What the write of a location with this place in coherence order writes.
abbrev pub written_last : List MemoryEvent → ℕ → ℕ → Option ℕ
written_last [] location rank = None
written_last (event ∷ events) location rank =
    if event.location == location && is_write event && event.rank == rank then event.writes
    else written_last events location rank

-- What the last write of a word in coherence order writes, or what is there at the start.
abbrev pub last_word : LitmusTest → Bool → List MemoryEvent → ℕ → Option ℕ
last_word test has_events events word =
    if not has_events then None else
    if writes_at word events == 0 then initial_number test word else written_last events word (writes_at word events)

abbrev pub located : LitmusTest → Bool → List MemoryEvent → ℕ → Option ℕ
located test has_events events index =
    option_and_then (λ location.
    option_map (λ word. part_of word location) (last_word test has_events events (location.byte / 4)))
    (slice_get test.locations.items index)

abbrev pub found_at : LitmusTest → AllRuns → List ℕ → Bool → List MemoryEvent → Known
found_at test runs chosen has_events events (observed.Register hart register) = register_of runs chosen hart register
found_at test runs chosen has_events events (observed.Location index) = located test has_events events index

-- The test's filter and its condition hold.
abbrev pub asked_for : LitmusTest → AllRuns → List ℕ → Bool → List MemoryEvent → Option Bool
asked_for test runs chosen has_events events =
    both (meets (found_at test runs chosen has_events events) test.filter)
    (meets (found_at test runs chosen has_events events) test.condition)

-- They aren't known to fail.
abbrev pub may_end : LitmusTest → AllRuns → List ℕ → List MemoryEvent → Bool
may_end test runs chosen events =
    option_map_or (λ holds. holds) (asked_for test runs chosen true events) true
