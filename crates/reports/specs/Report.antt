-- What the report says of a core. (This project's own choice.)
use Rattle.std.specs.Prelude.{ℕ, Bool, List, ◌++◌, codes}
use Rattle.std.specs.{Fmt.decimal}
use Rattle.events.specs.{declared.effect.Record.Record}
use Rattle.smt_model.specs.{declared.config.Status.Status}
use Rattle.smt_model.specs.{Words.op_of_word, Touched.gives_loaded}
use Rattle.report_lines.specs.Lines.{count_line, end_text}

-- A load among the retired instructions that gives a register its number: its rd isn't x0, and it
-- didn't stop.
abbrev pub is_load_record : Record → Bool
is_load_record r = gives_loaded (op_of_word r.word) r.effect

-- How many of so many such loads looked again.
abbrev pub looks_line : ℕ → ℕ → List ℕ
looks_line looks loads =
    codes "looks " ++ (decimal looks ++ (codes " of " ++ (decimal loads ++ codes " loads\n")))

-- The whole report: how many events there are, how many instructions have retired and how many jobs
-- are with units, and how it has ended.
abbrev pub report_text : ℕ → ℕ → ℕ → List Status → List ℕ → List ℕ
report_text events retired lent statuses output =
    count_line (codes "events") events
    ++ (count_line (codes "retired") retired ++ (count_line (codes "lent") lent
    ++ end_text statuses output))
