-- The numbers of a history, a line each. (This project's own choice.)
use Rattle.std.specs.Prelude.{ℕ, List}
use Rattle.events.specs.declared.effect.Record.{Record}
use Rattle.history_counts.specs.{declared.counts.Counts.Counts}
use Rattle.reports.specs.{Counts.counts_text}
use Rattle.reports.specs.declared.form.Form.TheVariants.{Lines}

abbrev pub count_lines : Counts → ℕ → List Record → List ℕ
count_lines counts harts records = counts_text Lines counts harts records
