-- What is printed of the ends of some runs. (This project's own choice, after the tables of ends of the
-- tools for litmus tests.)
use Rattle.std.specs.Prelude.{ℕ, ◌+◌, List, [], ◌∷◌, ◌++◌, length, codes}
use Rattle.std.specs.Fmt.{decimal}
use Rattle.report_lines.specs.Lines.{count_line, end_text}
use Rattle.outcome_queries.specs.declared.watched.Asked.{Asked}
use Rattle.outcome_text.specs.Line.{watched_text}
use Rattle.stress_runs.specs.declared.tally.Row.{Row}

-- The number of an end, and how often it came.
abbrev pub came_text : ℕ → ℕ → List ℕ
came_text number count =
    codes "end " ++ (decimal number ++ (codes " came " ++ (decimal count ++ codes " times")))

-- A row: that, and in the same line what is watched of the end, as the line of an outcome has it; and behind that
-- line what a report tells of the end. The registers that are watched, and the places in memory, are so asked for.
unfoldable pub row_text : List Asked → List Asked → ℕ → Row → List ℕ
row_text registers words number row = came_text number row.count
    ++ (watched_text registers words row.end ++ (10 ∷ end_text row.end.statuses row.end.output))

-- The rows, the first of which has this number.
abbrev pub row_texts : List Asked → List Asked → ℕ → List Row → List ℕ
row_texts registers words number [] = []
row_texts registers words number (row ∷ rows) =
    row_text registers words number row ++ row_texts registers words (number + 1) rows

-- The whole table of so many runs: how many runs there were, their ends, and how many ends.
abbrev pub tally_text : List Asked → List Asked → ℕ → List Row → List ℕ
tally_text registers words runs rows = count_line (codes "times") runs
    ++ (row_texts registers words 1 rows ++ count_line (codes "ends") (length rows))
