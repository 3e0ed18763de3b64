-- How many of some runs have ended so. (This project's own choice.)
use Rattle.std.specs.Prelude.{ℕ, Bool, if◌then◌else◌, List, sum_by}
use Rattle.smt_model.specs.{Basics.how_many}
use Rattle.watched_outcomes.specs.Endings.{Ending}
use Rattle.stress_runs.specs.declared.tally.Row.{Row}

-- By the rows of a tally, each with an end and how often it came: the counts of the ends that pass a test.
abbrev pub counted : (Ending → Bool) → Row → ℕ
counted test row = if test row.end then row.count else 0

abbrev pub in_rows : List Row → (Ending → Bool) → ℕ
in_rows rows test = sum_by (counted test) rows

-- By the ends themselves, one for each run: as many as pass the test.
abbrev pub in_runs : List Ending → (Ending → Bool) → ℕ
in_runs ends test = how_many test ends
