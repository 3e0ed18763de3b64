-- What a search has looked at: all candidates that are wanted, unless it left something out, or ended at one that it
-- looked for.
use Rattle.std.specs.Prelude.{◌≡◌, ℕ, ◌+◌, ◌-◌, ◌^◌, ◌<◌, min, Bool, true, false, ◌&&◌, ◌||◌, List, [], ◌++◌, length, All, filter}
use Rattle.std.specs.Prelude.{flat_map}
use Rattle.litmus_tests.specs.declared.test.LitmusTest.{LitmusTest}
use Rattle.litmus_runs.specs.declared.runs.{AllRuns.AllRuns, HartRuns.HartRuns}
use Rattle.litmus_cycles.specs.declared.{event.MemoryEvent.MemoryEvent, findings.Findings.Findings}
use Rattle.litmus_cycles.specs.declared.demand.Demand.{Demand}
use Rattle.litmus_cycles.specs.declared.demand.Demand.TheVariants.{Numbers, Writes, Coherent, Whole}
use Rattle.litmus_cycles.specs.Executions.{is_candidate, all_pairs}
use Rattle.litmus_cycles.specs.OneOrder.{is_coherent_execution, are_own_in_order}
use Rattle.litmus_cycles.specs.{Endings.may_end, Choices.candidates_of, Choices.all_ways, Counts.count_all}
use Rattle.litmus_cycles.specs.declared.showing.Judged.{Judged}
use Rattle.litmus_cycles.specs.Explained.{IsShown, shows_execution, HasCycle, fits, is_last, is_told, shown_behind}

-- Whether a candidate is asked for.
abbrev pub meets_demand : Demand → LitmusTest → List MemoryEvent → Bool
meets_demand Numbers test events = is_candidate test events
meets_demand Writes test events = is_candidate test events && all_pairs are_own_in_order events
meets_demand Coherent test events = is_candidate test events && is_coherent_execution events
meets_demand Whole test events = fits test events

-- So it is, and the test's condition may hold at its end.
abbrev pub is_wanted : LitmusTest → AllRuns → List ℕ → Demand → List MemoryEvent → Bool
is_wanted test runs chosen demand events = may_end test runs chosen events && meets_demand demand test events

-- The candidates of these ways that are wanted.
abbrev pub wanted_of : LitmusTest → AllRuns → Demand → List ℕ → List (List MemoryEvent)
wanted_of test runs demand chosen =
    filter (is_wanted test runs chosen demand) (candidates_of test runs.harts.items chosen)

-- Those of these ways of the first harts, with each choice of ways of the others.
abbrev pub wanted_behind : LitmusTest → AllRuns → Demand → List ℕ → List HartRuns → List (List MemoryEvent)
wanted_behind test runs demand chosen left =
    flat_map (λ others. wanted_of test runs demand (chosen ++ others)) (all_ways left)

-- Those of each choice of ways.
abbrev pub all_wanted : LitmusTest → AllRuns → Demand → List (List MemoryEvent)
all_wanted test runs demand = wanted_behind test runs demand [] runs.harts.items

-- Nothing was left out, and the search didn't end early.
pub record IsComplete (findings : Findings) : Type 0 where
  pub whole : findings.is_whole ≡ true
  pub lasts : findings.is_over ≡ false

pub record IsFound (test : LitmusTest) (findings : Findings) : Type 0 where
  pub shown : IsShown test findings.shown
  pub over : findings.is_over ≡ true → findings.is_whole ≡ true → 0 < findings.fitting

-- No candidate was taken.
pub record Stays (before after : Findings) : Type 0 where
  pub whole : after.is_whole ≡ true → before.is_whole ≡ true
  pub over : after.is_whole ≡ true → after.is_over ≡ before.is_over
  pub fitting : after.fitting ≡ before.fitting
  pub shown : after.shown ≡ before.shown

-- One that was judged so is counted. What is shown from there on is what was, or what this one shows.
pub record Keeps (judged : Judged) (before after : Findings) : Type 0 where
  pub whole : after.is_whole ≡ true → before.is_whole ≡ true
  pub told : after.is_whole ≡ true → is_told judged ≡ true
  pub over : after.is_whole ≡ true → after.is_over ≡ (before.is_over || is_last judged)
  pub some : 0 < after.fitting
  pub fitting : after.is_whole ≡ true → after.fitting ≡ before.fitting + 1
  pub shown : after.shown ≡ shown_behind judged before.shown

-- These are the candidates that were wanted of those that were looked at.
pub record Searches (demand : Demand) (found : List (List MemoryEvent)) (before after : Findings) : Type 0 where
  pub whole : after.is_whole ≡ true → before.is_whole ≡ true
  pub over : after.is_whole ≡ true → after.is_over ≡ false → before.is_over ≡ false
  pub lasts : demand ≡ Whole → after.is_whole ≡ true → before.is_over ≡ false → after.is_over ≡ false
  pub counted : IsComplete after → after.fitting ≡ before.fitting + length found
  pub execution : shows_execution after.shown ≡ false → shows_execution before.shown ≡ false
  pub cycles : IsComplete after → shows_execution after.shown ≡ false → All HasCycle found

-- So many candidates were counted, up to the greatest number.
pub record HasCounted (total : ℕ) (before after : Findings) : Type 0 where
  pub sum : IsComplete after → min after.candidates (2 ^ 64 - 1) ≡ min (before.candidates + total) (2 ^ 64 - 1)

-- So are all that are wanted of a test, and all candidates counted.
pub record AreSearched (test : LitmusTest) (runs : AllRuns) (demand : Demand) (findings : Findings) : Type 0 where
  pub lasts : demand ≡ Whole → findings.is_whole ≡ true → findings.is_over ≡ false
  pub counted : IsComplete findings → findings.fitting ≡ length (all_wanted test runs demand)
  pub cycles : IsComplete findings → shows_execution findings.shown ≡ false
      → All HasCycle (all_wanted test runs demand)
  pub candidates : IsComplete findings
      → min findings.candidates (2 ^ 64 - 1) ≡ min (count_all test runs) (2 ^ 64 - 1)
