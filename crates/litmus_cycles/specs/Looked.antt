-- What is claimed where all candidates were looked at: how many there are, up to the greatest number, and how many of
-- them fit; and by what is shown that each of these has a cycle, or that there is none of a kind.
use Rattle.std.specs.Prelude.{◌≡◌, ◌-◌, ◌^◌, min, Bool, true, false, [], length, All}
use Rattle.litmus_tests.specs.declared.test.LitmusTest.{LitmusTest}
use Rattle.litmus_runs.specs.declared.runs.AllRuns.{AllRuns}
use Rattle.litmus_cycles.specs.declared.explanation.{Shown.Shown, Explanation.Explanation}
use Rattle.litmus_cycles.specs.declared.explanation.Shown.TheVariants.{Nothing, Cycle, Incoherent, Atomicity, Execution}
use Rattle.litmus_cycles.specs.declared.demand.Demand.{Demand}
use Rattle.litmus_cycles.specs.declared.demand.Demand.TheVariants.{Numbers, Coherent, Whole}
use Rattle.litmus_cycles.specs.{Explained.HasCycle, Searched.all_wanted, Counts.count_all}

abbrev pub is_incoherent : Shown → Bool
is_incoherent Nothing = false
is_incoherent (Cycle events edges) = false
is_incoherent (Incoherent events edges) = true
is_incoherent (Atomicity events broken) = false
is_incoherent (Execution events order) = false

abbrev pub is_atomicity : Shown → Bool
is_atomicity Nothing = false
is_atomicity (Cycle events edges) = false
is_atomicity (Incoherent events edges) = false
is_atomicity (Atomicity events broken) = true
is_atomicity (Execution events order) = false

-- No candidate is so, whichever way of each hart is chosen.
abbrev pub NoneMeets : LitmusTest → AllRuns → Demand → Type 0
NoneMeets test runs demand = all_wanted test runs demand ≡ []

-- Where nothing is shown, none has the numbers; where one is shown that isn't coherent, none with the numbers is; where
-- one is shown that isn't whole, none that is coherent is whole.
abbrev pub HasNone : LitmusTest → AllRuns → Shown → Type 0
HasNone test runs Nothing = NoneMeets test runs Numbers
HasNone test runs (Cycle events edges) = Unit {0}
HasNone test runs (Incoherent events edges) = NoneMeets test runs Coherent
HasNone test runs (Atomicity events broken) = NoneMeets test runs Whole
HasNone test runs (Execution events order) = Unit {0}

-- Where a cycle is shown, each that fits has one.
abbrev pub EachHas : LitmusTest → AllRuns → Shown → Type 0
EachHas test runs Nothing = Unit {0}
EachHas test runs (Cycle events edges) = All HasCycle (all_wanted test runs Whole)
EachHas test runs (Incoherent events edges) = Unit {0}
EachHas test runs (Atomicity events broken) = Unit {0}
EachHas test runs (Execution events order) = Unit {0}

pub record AreLookedAt (test : LitmusTest) (runs : AllRuns) (explanation : Explanation) : Type 0 where
  pub candidates : explanation.is_whole ≡ true
      → min explanation.candidates (2 ^ 64 - 1) ≡ min (count_all test runs) (2 ^ 64 - 1)
  pub fitting : explanation.is_whole ≡ true → explanation.fitting ≡ length (all_wanted test runs Whole)
  pub none : explanation.is_whole ≡ true → explanation.fitting ≡ 0 → HasNone test runs explanation.shown
  pub each : explanation.is_whole ≡ true → EachHas test runs explanation.shown
