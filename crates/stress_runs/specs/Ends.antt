-- How the runs of a program end, how often each end comes, and which exit status is the worst. (This
-- project's own choice, after the tables of ends of the tools for litmus tests.)
use Rattle.std.specs.Prelude.{◌≡◌, ℕ, ◌+◌, ◌%◌, ◌<◌, ◌^◌, max, Bool, not, ◌&&◌, if◌then◌else◌}
use Rattle.std.specs.Prelude.{List, [], ◌∷◌, ◌++◌, length, map, nat_eq, Option, Some, None}
use Rattle.std.specs.List.{list_any}
use Rattle.std.specs.Cmp.Lexicographic.{pointwise}
use Rattle.smt_model.specs.{Basics.how_many}
use Rattle.smt_model.specs.contracts.config.StatusPartialEq.TheImpl.{eq-value as same_status}
use Rattle.core_state.specs.View.{CoreView}
use Rattle.watched_outcomes.specs.{declared.watch.Watch.Watch, Endings.Ending}
use Rattle.outcomes.specs.Found.{core_ending}
use Rattle.report_lines.specs.Lines.{status_number}
use Rattle.stress_runs.specs.declared.tally.Row.{Row}

-- The end of the run that has left this core, with what is watched of it.
abbrev pub end_of : Watch → CoreView → Ending
end_of watch core = core_ending core.setup watch core.past

-- Two ends are the same: each hart stands as in the other, each register and each place in memory that is watched
-- holds the same number, and the same bytes were put out.
abbrev pub same_end : Ending → Ending → Bool
same_end one other = pointwise same_status.it one.statuses other.statuses
    && (pointwise nat_eq one.registers other.registers
    && (pointwise nat_eq one.words other.words && pointwise nat_eq one.output other.output))

-- Of some runs, the newest first: whether one has ended so, and how many have.
abbrev pub has_come : Ending → List Ending → Bool
has_come end past = list_any (λ one. same_end one end) past

abbrev pub times_of : List Ending → Ending → ℕ
times_of past end = how_many (λ one. same_end one end) past

-- The ends of these runs: each end once, in the order in which they came first.
abbrev pub ends_of : List Ending → List Ending
ends_of [] = []
ends_of (end ∷ past) = if has_come end past then ends_of past else ends_of past ++ end ∷ []

-- The rows of these runs: each end, and how many of them have ended so.
abbrev pub row_of : List Ending → Ending → Row
row_of past end = record { end = end; count = times_of past end }

abbrev pub rows_of : List Ending → List Row
rows_of past = map (λ end. row_of past end) (ends_of past)

-- The worst exit status of the runs. A hart that is still going is worse than one that has ended with
-- another number than 0 or has stopped; best is where every hart has ended with 0.
abbrev pub worst_of : List Ending → ℕ
worst_of [] = 0
worst_of (end ∷ past) = max (worst_of past) (status_number end.statuses)

-- Rows, with the worst exit status; and those of some runs, the newest first.
pub record TallyView : Type 0 where
  pub rows : List Row
  pub status : ℕ

abbrev pub tally_of : List Ending → TallyView
tally_of past = record { rows = rows_of past; status = worst_of past }

-- Whatever the runs before, if they aren't too many to be counted: where this was their tally, it is
-- theirs and that of one more, which has ended so.
abbrev pub Counts : Ending → TallyView → TallyView → Type 0
Counts end old new = (past : List Ending) → length past + 1 < 2 ^ 32
    → old ≡ tally_of past → new ≡ tally_of (end ∷ past)

-- The row is of this end; none of the rows is; the number of this end, from 1, where none is.
abbrev pub has_end : Ending → Row → Bool
has_end end row = same_end row.end end

abbrev pub is_new : Ending → List Row → Bool
is_new end rows = not (list_any (has_end end) rows)

abbrev pub next_number : Ending → List Row → Option ℕ
next_number end rows = if is_new end rows then Some (length rows + 1) else None

-- A row once one more run has ended so: its count is a word.
abbrev pub counting : Ending → Row → Row
counting end row =
    if has_end end row then record { end = row.end; count = (row.count + 1) % 2 ^ 32 } else row
