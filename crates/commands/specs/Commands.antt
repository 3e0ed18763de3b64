-- What is owed on a command of a program, of its settings, its program image, the names that it wants of it and its
-- second file as it was read: each row names the definitions of one command. (This project's own choice.)
use Rattle.std.specs.Prelude.{◌≡◌, ℕ, Bool, true, false, List, [], Option, Some, None, is_some}
use Rattle.std.specs.Prelude.{if◌then◌else◌, ◌||◌, option_map}
use Rattle.elf_image.specs.Image.{ProgramImage}
use Rattle.core_state.specs.View.{CoreView}
use Rattle.symbols.specs.Tables.{Table}
use Rattle.text_fields.specs.{Printing.Prints}
use Rattle.sim_inputs.specs.{declared.settings.Settings.Settings, Files.written_chart, Files.written_of_outcomes}
use Rattle.sim_inputs.specs.declared.line.ProgramCommand.{ProgramCommand}
use Rattle.sim_inputs.specs.declared.line.ProgramCommand.TheVariants as commands
use Rattle.command_parts.specs.{declared.refused.Refused.Refused}
use Rattle.command_parts.specs.Inputs.{Read, OfFile, BehindFile}
use Rattle.core_commands.specs.Wanted.{step_wants, run_wants, check_wants}
use Rattle.core_commands.specs.Step.{IsStepRefusal, StepComesTo, AreMarked}
use Rattle.sim_inputs.specs.declared.line.RunCommand.{RunCommand}
use Rattle.core_commands.specs.Run.{IsRunRefusal, RunComesTo, LackARole}
use Rattle.core_commands.specs.Stress.{StressComesTo, IsStressRefusal}
use Rattle.commands.specs.{Written.ToWrite, Written.TraceOf, Written.EndsOf, Written.TextIf}
use Rattle.core_commands.specs.Check.{CheckComesTo, OfEvents, AreTooMany}
use Rattle.core_commands.specs.Told.{IsCheckRefusalWith}
use Rattle.core_commands.specs.Chart.{IsChartRefusal, ChartComesTo}
use Rattle.plain_commands.specs.Plain.{IsPlainRefusal, PlainComesTo}
use Rattle.sim_inputs.specs.declared.line.PlainCommand.{PlainCommand}
use Rattle.story_text.specs.Text.{Plan}
use Rattle.story_pictures.specs.Form.{Plan as DrawnPlan, theme_or}
use Rattle.plain_commands.specs.PlainRounds.{rounds_of, InRounds, IsRoundsRefusal, RoundsComeTo}
use Rattle.plain_commands.specs.Schedule.{IsScheduleRefusal, ScheduleComesTo}
use Rattle.core_commands.specs.Script.{IsScriptingRefusal, ScriptComesTo}
use Rattle.source_lines.specs.{declared.reading.SourceLines.SourceLines, Lines.Origin, Lines.origins_of}
use Rattle.address_labels.specs.Labels.{Marks, marks_where}
use Rattle.sim_inputs.specs.Files.{lines_of}
use Rattle.sim_inputs.specs.declared.line.ChartEnd.{ChartEnd}
use Rattle.sim_inputs.specs.declared.line.ChartEnd.TheVariants as ends
use Rattle.commands.specs.List.{IsListRefusal, ListComesTo}
use Rattle.plain_commands.specs.{Outcomes.IsOutcomesRefusal, Outcomes.OutcomesComeTo}

-- When each refusal of `run` comes: of one run, or of as many as are asked for.
abbrev pub IsRunsRefusal : Option ℕ → RunCommand → Settings → ProgramImage → Table → Refused → Type 0
IsRunsRefusal None run settings image names reason = IsRunRefusal settings reason
IsRunsRefusal (Some times) run settings image names reason = IsStressRefusal settings image names run reason

-- When each refusal of a command comes. One that has a second file is refused where that is unread;
-- rounds have none.
abbrev pub IsCommandRefusal : ProgramCommand → Settings → ProgramImage → Table → Read → Refused → Type 0
IsCommandRefusal (commands.Step step) settings image names second reason =
    BehindFile second (IsStepRefusal settings) reason
IsCommandRefusal (commands.Run run) settings image names second reason =
    IsRunsRefusal run.times run settings image names reason
IsCommandRefusal (commands.Check check) settings image names second reason =
    BehindFile second (IsCheckRefusalWith (is_some (check_wants check names).ends) settings image) reason
IsCommandRefusal (commands.Plain plain) settings image names second reason =
    InRounds (rounds_of plain) (λ rounds. IsRoundsRefusal settings reason)
    (BehindFile second (λ order. IsPlainRefusal settings image order (is_some plain.story_svg)) reason)
IsCommandRefusal (commands.Schedule schedule) settings image names second reason =
    BehindFile second (IsScheduleRefusal settings image) reason
IsCommandRefusal (commands.Script script) settings image names second reason =
    BehindFile second (IsScriptingRefusal settings image) reason
IsCommandRefusal (commands.List list) settings image names second reason = IsListRefusal reason
IsCommandRefusal (commands.Outcomes outcomes) settings image names second reason =
    IsOutcomesRefusal settings image names outcomes reason
IsCommandRefusal (commands.Chart chart) settings image names second reason =
    BehindFile second (λ trace. IsChartRefusal settings image trace chart names) reason

-- What `run` comes to: one run, or as many as are asked for.
abbrev pub RunsComeTo : Option ℕ → RunCommand → Settings → ProgramImage → Table → Marks → (ToWrite → Type 0)
    → Option (List ℕ) → Option (List ℕ) → ℕ → Type 0
RunsComeTo None run settings image names marks Traced old new status =
    RunComesTo settings image (run_wants run) marks (λ core. Traced (TraceOf (is_some run.trace) core)) old new status
RunsComeTo (Some times) run settings image names marks Traced old new status =
    StressComesTo settings image names run times (λ cores. Unit {0})
    (λ watch cores. Traced (EndsOf (is_some run.keep) names watch cores)) old new status

-- How the story of an order is told, where it is wanted.
abbrev pub story_plan : PlainCommand → Settings → Table → Marks → Option Plan
story_plan plain settings names marks = if plain.story
    then Some (record { harts = settings.config.harts; all = plain.all; names = names; marks = marks }) else None

-- How a picture of that story is drawn, where it is wanted.
abbrev pub drawn_plan : PlainCommand → Settings → Table → Marks → Option DrawnPlan
drawn_plan plain settings names marks = if is_some plain.story_svg
    then Some (record {
      harts = settings.config.harts;
      names = names;
      marks = marks;
      is_stuck = false;
      foot = [];
      theme = theme_or plain.theme;
    })
    else None

-- What a command comes to. `Traced` says whether its files are written, where that is wanted: a trace of
-- a core, or the files of ends.
abbrev pub CommandComesTo : ProgramCommand → Settings → ProgramImage → Table → Option (List Origin) → Read
    → (ToWrite → Type 0)
    → Option (List ℕ) → Option (List ℕ) → ℕ → Type 0
CommandComesTo (commands.Step step) settings image names lines second Traced old new status =
    OfFile second (λ script. StepComesTo settings image script step.why (step_wants step names)
    (marks_where step.names names lines)
    (λ core. Traced (TraceOf (is_some step.trace) core)) old new status)
CommandComesTo (commands.Run run) settings image names lines second Traced old new status =
    RunsComeTo run.times run settings image names (marks_where run.names names lines) Traced old new status
CommandComesTo (commands.Check check) settings image names lines second Traced old new status =
    OfFile second (λ trace. CheckComesTo settings image trace (check_wants check names)
    (marks_where check.names names lines) old new status)
CommandComesTo (commands.Plain plain) settings image names lines second Traced old new status =
    InRounds (rounds_of plain)
    (λ rounds. RoundsComeTo settings image rounds plain.records (marks_where plain.names names lines) old new status)
    (OfFile second (λ order. PlainComesTo settings image order
    (story_plan plain settings names (marks_where plain.names names lines))
    (drawn_plan plain settings names (marks_where plain.names names lines)) plain.records
    (marks_where plain.names names lines) (λ text. Traced (TextIf text)) old new status))
CommandComesTo (commands.Schedule schedule) settings image names lines second Traced old new status =
    OfFile second (λ order. ScheduleComesTo settings image order old new status)
CommandComesTo (commands.Script script) settings image names lines second Traced old new status =
    OfFile second (λ trace. ScriptComesTo settings image trace old new status)
CommandComesTo (commands.List list) settings image names lines second Traced old new status =
    ListComesTo image (marks_where list.names names lines) old new status
CommandComesTo (commands.Outcomes outcomes) settings image names lines second Traced old new status =
    OutcomesComeTo settings image names (marks_where false names lines) outcomes (λ text. Traced (TextIf text)) old new
    status
CommandComesTo (commands.Chart chart) settings image names lines second Traced old new status =
    OfFile second (λ trace. ChartComesTo settings image trace chart names old new status)

-- What a command may refuse of settings that are a configuration's: a run of threads needs an actor
-- of each role, and a trace, checked, drawn or asked for again, may have no more events than a core.
-- No other command refuses any.
abbrev pub AreUnfit : ProgramCommand → Settings → ProgramImage → Read → Type 0
AreUnfit (commands.Run run) settings image second = LackARole settings
AreUnfit (commands.Check check) settings image second =
    OfFile second (λ trace. OfEvents settings image trace AreTooMany)
AreUnfit (commands.Script script) settings image second =
    OfFile second (λ trace. OfEvents settings image trace AreTooMany)
AreUnfit (commands.Chart chart) settings image second =
    OfFile second (λ trace. OfEvents settings image trace AreTooMany)
AreUnfit _ settings image second = ⊥

-- What a command prints that doesn't come to its report since its file couldn't be written: a
-- core's answers to the asks, or what explains them, where it makes steps; nothing, where it runs
-- threads, or where the file is that of a chart, of an order or of a picture. No other command of a program writes a
-- file.
abbrev pub IsProgramUnreported : ProgramCommand → Read → Option (List ℕ) → Option (List ℕ) → Type 0
IsProgramUnreported (commands.Step step) second old new =
    (core : CoreView) × (idle : List ℕ) × (marks : Marks)
    × Prints old new (λ text. OfFile second (λ script. AreMarked step.why marks script core idle text))
IsProgramUnreported (commands.Run run) second old new = new ≡ old
IsProgramUnreported (commands.Plain plain) second old new = new ≡ old
IsProgramUnreported (commands.Chart chart) second old new = new ≡ old
IsProgramUnreported (commands.Outcomes outcomes) second old new = new ≡ old
IsProgramUnreported _ second old new = ⊥

-- The command writes a file that is named for the trace of its core, for its chart, for an order, for a picture of its
-- story or for one of why, or files of ends into a folder.
abbrev pub program_writes_file : ProgramCommand → Bool
program_writes_file (commands.Step step) = is_some step.trace
program_writes_file (commands.Run run) = if is_some run.times then is_some run.keep else is_some run.trace
program_writes_file (commands.Plain plain) = is_some plain.story_svg
program_writes_file (commands.Chart chart) = is_some (written_chart chart)
program_writes_file (commands.Outcomes outcomes) = is_some (written_of_outcomes outcomes)
program_writes_file _ = false

-- The command shows or takes names of its program.
abbrev pub is_function : ChartEnd → Bool
is_function (ends.Event number) = false
is_function (ends.Function name) = true

abbrev pub wants_names : ProgramCommand → Bool
wants_names (commands.Outcomes outcomes) = true
wants_names (commands.Chart chart) = (chart.names || is_function chart.from) || is_function chart.to
wants_names (commands.Step step) = step.names || step.story
wants_names (commands.Run run) = run.names || is_some run.watch || is_some run.question || is_some run.keep
wants_names (commands.Check check) = check.names || check.story
wants_names (commands.Plain plain) = (plain.names || plain.story) || is_some plain.story_svg
wants_names (commands.List list) = list.names
wants_names (commands.Schedule schedule) = false
wants_names (commands.Script script) = false

-- It reads the lines of its sources.
abbrev pub reads_lines : ProgramCommand → Bool
reads_lines command = is_some (lines_of command)

-- The lines of sources that were read, as they are spoken of.
abbrev pub origins_in : Option SourceLines → Option (List Origin)
origins_in lines = option_map (λ lines. origins_of lines.lines.items) lines
