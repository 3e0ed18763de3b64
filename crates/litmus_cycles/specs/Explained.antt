-- What is claimed of an explanation: what it shows is a candidate, with the cycle that it names, or without any.
use Rattle.std.specs.Prelude.{◌≡◌, IsTrue, Bool, true, false, ◌&&◌, if◌then◌else◌, List}
use Rattle.litmus_tests.specs.declared.test.LitmusTest.{LitmusTest}
use Rattle.litmus_cycles.specs.declared.{event.MemoryEvent.MemoryEvent, event.Edge.Edge, explanation.Shown.Shown}
use Rattle.litmus_cycles.specs.declared.showing.Judged.{Judged}
use Rattle.litmus_cycles.specs.declared.demand.Demand.{Demand}
use Rattle.litmus_cycles.specs.declared.demand.Demand.TheVariants.{Numbers, Writes, Coherent, Whole}
use Rattle.litmus_cycles.specs.declared.explanation.Shown.TheVariants.{Nothing, Cycle, Incoherent, Atomicity, Execution}
use Rattle.litmus_cycles.specs.declared.showing.Judged.TheVariants.{Less, More, Allowed, Last, Untold}
use Rattle.litmus_cycles.specs.Executions.{is_candidate, is_cycle, is_broken, is_order, stays_at_one_location}
use Rattle.litmus_cycles.specs.OneOrder.{is_coherent_execution, is_whole_execution}

-- A candidate that is coherent, and whose AMOs and store-conditionals are whole.
abbrev pub fits : LitmusTest → List MemoryEvent → Bool
fits test events = is_candidate test events && is_coherent_execution events && is_whole_execution events

abbrev pub IsShown : LitmusTest → Shown → Type 0
IsShown test Nothing = Unit {0}
IsShown test (Cycle events edges) = IsTrue (fits test events.items) × IsTrue (is_cycle events.items edges.items)
IsShown test (Incoherent events edges) = IsTrue (is_candidate test events.items)
    × IsTrue (is_cycle events.items edges.items) × IsTrue (stays_at_one_location events.items edges.items)
IsShown test (Atomicity events broken) = IsTrue (is_candidate test events.items)
    × IsTrue (is_coherent_execution events.items) × IsTrue (is_broken events.items broken)
IsShown test (Execution events order) = IsTrue (fits test events.items) × IsTrue (is_order events.items order.items)

-- It shows an execution that can come.
abbrev pub shows_execution : Shown → Bool
shows_execution Nothing = false
shows_execution (Cycle events edges) = false
shows_execution (Incoherent events edges) = false
shows_execution (Atomicity events broken) = false
shows_execution (Execution events order) = true

-- Some edges of an execution are a cycle.
abbrev pub HasCycle : List MemoryEvent → Type 0
HasCycle events = (edges : List Edge) × IsTrue (is_cycle events edges)

-- The search for such a candidate ends at the first: of those that fit all are looked at.
abbrev pub ends_early : Demand → Bool
ends_early Numbers = true
ends_early Writes = true
ends_early Coherent = true
ends_early Whole = false

-- What is to be made of a candidate of a demand: it is said to cost less, or as much or more, only where it has a cycle.
abbrev pub IsJudged : Demand → LitmusTest → List MemoryEvent → Judged → Type 0
IsJudged demand test events (Less shown cost) = IsShown test shown × HasCycle events
IsJudged demand test events More = HasCycle events
IsJudged demand test events (Allowed shown) = IsShown test shown × (shows_execution shown ≡ true)
IsJudged demand test events (Last shown) = IsShown test shown × (ends_early demand ≡ true)
IsJudged demand test events Untold = Unit {0}

abbrev pub is_last : Judged → Bool
is_last (Less shown cost) = false
is_last More = false
is_last (Allowed shown) = false
is_last (Last shown) = true
is_last Untold = false

abbrev pub is_told : Judged → Bool
is_told (Less shown cost) = true
is_told More = true
is_told (Allowed shown) = true
is_told (Last shown) = true
is_told Untold = false

-- What is shown, where this was before: an execution stays.
abbrev pub unless_execution : Shown → Shown → Shown
unless_execution before shown = if shows_execution before then before else shown

-- What is shown behind a candidate, of what was shown before.
abbrev pub shown_behind : Judged → Shown → Shown
shown_behind (Less shown cost) before = unless_execution before shown
shown_behind More before = before
shown_behind (Allowed shown) before = unless_execution before shown
shown_behind (Last shown) before = unless_execution before shown
shown_behind Untold before = before
