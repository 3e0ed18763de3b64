-- The counts of a histogram add up. (This project's own choice.)
use Rattle.std.specs.Prelude.{◌≡◌, ℕ, ◌+◌, if◌then◌else◌, List, length, sum_by}
use Rattle.outcomes.specs.{Found.Told}
use Rattle.watched_outcomes.specs.Endings.{Ending}
use Rattle.litmus_tests.specs.declared.test.LitmusTest.{LitmusTest}
use Rattle.litmus_histograms.specs.{Kinds.is_kind, Kinds.is_passed, Counting.in_runs, Text.runs_of}
use Rattle.litmus_histograms.specs.declared.kinds.RunKind.TheVariants.{Held, Other, LeftOut, NotEnded}

-- The count in the line of a state; 0 where the filter leaves it out, and where it has no line since no run has come to it.
abbrev pub line_count : LitmusTest → List Ending → Told → ℕ
line_count test ends told = if is_passed test told.ending then runs_of (in_runs ends) told.ending else 0

-- The counts of all lines are those of the runs of which the condition holds and doesn't, and with the runs that the filter
-- leaves out and those that haven't ended they are all runs.
pub record AddsUp (test : LitmusTest) (ends : List Ending) (listed : List Told) : Type 0 where
  pub lines : sum_by (line_count test ends) listed
      ≡ in_runs ends (is_kind test Held) + in_runs ends (is_kind test Other)
  pub all : in_runs ends (is_kind test Held) + in_runs ends (is_kind test Other)
      + in_runs ends (is_kind test LeftOut) + in_runs ends (is_kind test NotEnded) ≡ length ends
