-- The files that a line names. (This project's own choice.)
use Rattle.std.specs.Prelude.{List, ℕ, ◌+◌, nat_le, Bool, true, false, Option, None, Some, is_some, option_map, not, ◌&&◌}
use Rattle.std.specs.Prelude.{codes, if◌then◌else◌}
use Rattle.std.specs.{Borrow.Bor, Option.option_map_or, Str.bytes_eq}
use Rattle.sim_inputs.specs.{declared.files.Files.Files}
use Rattle.sim_inputs.specs.{declared.line.Line.Line, declared.line.Command.Command}
use Rattle.sim_inputs.specs.{declared.line.ProgramCommand.ProgramCommand}
use Rattle.sim_inputs.specs.{declared.line.ChartCommand.ChartCommand}
use Rattle.sim_inputs.specs.{declared.line.OutcomesCommand.OutcomesCommand}
use Rattle.sim_inputs.specs.{declared.line.LitmusCommand.LitmusCommand}
use Rattle.sim_inputs.specs.TestOrders.{order_asked}
use Rattle.sim_inputs.specs.{declared.line.ExplainCommand.ExplainCommand, declared.line.Beside.Beside}
use Rattle.sim_inputs.specs.declared.line.Beside.TheVariants as beside
use Rattle.sim_inputs.specs.declared.line.Command.TheVariants as commands
use Rattle.sim_inputs.specs.declared.line.ProgramCommand.TheVariants as program

-- The file that a chart is written to: a picture, or Konata's log; and that of the log beside a picture.
abbrev pub written_chart : ChartCommand → Option (Bor (List ℕ))
written_chart chart = if is_some chart.svg then chart.svg else chart.kanata

abbrev pub written_beside_chart : ChartCommand → Option (Bor (List ℕ))
written_beside_chart chart = if is_some chart.svg then chart.kanata else None

-- The file that an order is written to, or its script, or its story, or a picture of that.
abbrev pub written_order : OutcomesCommand → Option (Bor (List ℕ))
written_order outcomes = if is_some outcomes.witness then outcomes.witness
    else (if is_some outcomes.script then outcomes.script
    else (if is_some outcomes.story then outcomes.story else outcomes.story_svg))

-- The file that `outcomes` writes: the picture of why, or what is written of an order.
abbrev pub written_of_outcomes : OutcomesCommand → Option (Bor (List ℕ))
written_of_outcomes outcomes = if is_some outcomes.svg then outcomes.svg else written_order outcomes

-- The file that a test's image is written to, or the picture of why it can't end so, or what is written of the order of a
-- final state.
abbrev pub written_for_test : LitmusCommand → Option (Bor (List ℕ))
written_for_test litmus = if is_some litmus.image then litmus.image
    else (if is_some litmus.svg then litmus.svg else written_order (order_asked litmus))

-- The file that is explained beside an image.
abbrev pub beside_name : Beside → Bor (List ℕ)
beside_name (beside.Script script) = script
beside_name (beside.Order order) = order
beside_name (beside.Trace trace) = trace

abbrev pub explained_beside : ExplainCommand → Option (Bor (List ℕ))
explained_beside explain = option_map beside_name explain.beside

-- The image of a program's command, and the file that it reads beside image and configuration: a script, a
-- trace, or an order.
abbrev image_of : ProgramCommand → Bor (List ℕ)
image_of (program.Step step) = step.image
image_of (program.Run run) = run.image
image_of (program.Check check) = check.image
image_of (program.Plain plain) = plain.image
image_of (program.Schedule schedule) = schedule.image
image_of (program.Script script) = script.image
image_of (program.List list) = list.image
image_of (program.Chart chart) = chart.image
image_of (program.Outcomes outcomes) = outcomes.image

abbrev second_of : ProgramCommand → Option (Bor (List ℕ))
second_of (program.Step step) = Some step.script
second_of (program.Run run) = None
second_of (program.Check check) = Some check.trace
second_of (program.Plain plain) = plain.order
second_of (program.Schedule schedule) = Some schedule.order
second_of (program.Script script) = Some script.trace
second_of (program.List list) = None
second_of (program.Chart chart) = Some chart.trace
second_of (program.Outcomes outcomes) = None

-- The source lines that it reads beside them; and whether it shows the names of its program.
abbrev pub lines_of : ProgramCommand → Option (Bor (List ℕ))
lines_of (program.Step step) = step.lines
lines_of (program.Run run) = run.lines
lines_of (program.Check check) = check.lines
lines_of (program.Plain plain) = plain.lines
lines_of (program.Schedule schedule) = None
lines_of (program.Script script) = None
lines_of (program.List list) = list.lines
lines_of (program.Chart chart) = None
lines_of (program.Outcomes outcomes) = outcomes.lines

abbrev pub shows_names : ProgramCommand → Bool
shows_names (program.Step step) = step.names
shows_names (program.Run run) = run.names
shows_names (program.Check check) = check.names
shows_names (program.Plain plain) = plain.names
shows_names (program.Schedule schedule) = false
shows_names (program.Script script) = false
shows_names (program.List list) = list.names
shows_names (program.Chart chart) = chart.names
shows_names (program.Outcomes outcomes) = false

-- The file that it writes: the trace of a core, a chart, an order, its script or its story, a picture of that, or one
-- of why.
abbrev written_by : ProgramCommand → Option (Bor (List ℕ))
written_by (program.Step step) = step.trace
written_by (program.Run run) = run.trace
written_by (program.Check check) = None
written_by (program.Plain plain) = plain.story_svg
written_by (program.Schedule schedule) = None
written_by (program.Script script) = None
written_by (program.List list) = None
written_by (program.Chart chart) = written_chart chart
written_by (program.Outcomes outcomes) = written_of_outcomes outcomes

-- The second file that it writes, where it writes two.
abbrev pub written_beside : ProgramCommand → Option (Bor (List ℕ))
written_beside (program.Chart chart) = written_beside_chart chart
written_beside _ = None

-- The files of a command, beside the configuration of its line.
abbrev pub program_files : Option (Bor (List ℕ)) → ProgramCommand → Files
program_files config command = record {
  config = config;
  program = Some (image_of command);
  second = second_of command;
  lines = lines_of command;
  written = written_by command;
  beside = written_beside command;
}

abbrev pub files_with : Option (Bor (List ℕ)) → Command → Files
files_with config (commands.OfProgram command) = program_files config command
files_with config (commands.Explain explain) = record {
  config = config;
  program = Some explain.image;
  second = explained_beside explain;
  lines = None;
  written = None;
  beside = None;
}
files_with config (commands.Litmus litmus) = record {
  config = config;
  program = Some litmus.test;
  second = litmus.expect;
  lines = None;
  written = written_for_test litmus;
  beside = None;
}
files_with config (commands.Migrate migrate) = record {
  config = config;
  program = None;
  second = Some migrate.trace;
  lines = None;
  written = Some migrate.out;
  beside = None;
}

-- The configuration, the image or the litmus test, the file that is read beside them (the script, the
-- trace that is read, or the order), the source lines, and the file that is written: the trace of a core or of a
-- migration, a chart, an order, its script or its story, a picture of that, one of why, or what is made of a test; and a
-- chart's log beside its picture.
abbrev pub files_of : Line → Files
files_of line = files_with line.config line.command

-- The second file of a command has words, those of a script or of an order: its comments are blanked before
-- it is read.
abbrev is_of_words : Beside → Bool
is_of_words (beside.Script script) = true
is_of_words (beside.Order order) = true
is_of_words (beside.Trace trace) = false

abbrev pub reads_words : Command → Bool
reads_words (commands.OfProgram (program.Step step)) = true
reads_words (commands.OfProgram (program.Run run)) = false
reads_words (commands.OfProgram (program.Check check)) = false
reads_words (commands.OfProgram (program.Plain plain)) = true
reads_words (commands.OfProgram (program.Schedule schedule)) = true
reads_words (commands.OfProgram (program.Script script)) = false
reads_words (commands.OfProgram (program.List list)) = false
reads_words (commands.OfProgram (program.Chart chart)) = false
reads_words (commands.OfProgram (program.Outcomes outcomes)) = false
reads_words (commands.Explain explain) = option_map_or is_of_words explain.beside false
reads_words (commands.Litmus litmus) = false
reads_words (commands.Migrate migrate) = false

-- The second file of a command of a program is a trace; so is what is explained.
abbrev pub reads_trace : ProgramCommand → Bool
reads_trace (program.Check check) = true
reads_trace (program.Script script) = true
reads_trace (program.Chart chart) = true
reads_trace _ = false

abbrev pub is_trace : Beside → Bool
is_trace (beside.Trace trace) = true
is_trace _ = false

-- This names standard input in place of a file.
abbrev pub is_standard_input : List ℕ → Bool
is_standard_input name = bytes_eq name (codes "-")

-- How often standard input stands in place of this file: once or never.
abbrev pub input_count : Option (List ℕ) → ℕ
input_count None = 0
input_count (Some name) = if is_standard_input name then 1 else 0

abbrev input_count_of : Option (Bor (List ℕ)) → ℕ
input_count_of file = input_count (option_map (λ name. name.now) file)

-- Standard input stands in place of one file that is read, at the most.
abbrev pub reads_input_once : Line → Bool
reads_input_once line = let files = files_of line in
    nat_le (input_count_of files.config + input_count_of files.program + input_count_of files.second
    + input_count_of files.lines) 1

-- No dash stands in place of a file that is written.
abbrev pub is_undashed : Option (List ℕ) → Bool
is_undashed file = option_map_or (λ name. not (is_standard_input name)) file true

abbrev is_undashed_file : Option (Bor (List ℕ)) → Bool
is_undashed_file file = is_undashed (option_map (λ name. name.now) file)

abbrev pub writes_no_dash : Line → Bool
writes_no_dash line = let files = files_of line in is_undashed_file files.written && is_undashed_file files.beside
