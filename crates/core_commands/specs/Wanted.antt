-- What is wanted of a core, by the words of a command. (This project's own choice.)
use Rattle.std.specs.Prelude.{Bool, false, Option, Some, None, is_some, option_map, if◌then◌else◌}
use Rattle.sim_inputs.specs.declared.line.StepCommand.{StepCommand}
use Rattle.sim_inputs.specs.declared.line.RunCommand.{RunCommand}
use Rattle.sim_inputs.specs.declared.line.CheckCommand.{CheckCommand}
use Rattle.reports.specs.{declared.ends.RunEnd.RunEnd}
use Rattle.reports.specs.declared.ends.RunEnd.TheVariants.{Script, Turns, Trace}
use Rattle.symbols.specs.Tables.{Table, table_of}
use Rattle.core_commands.specs.declared.wanted.{CoreStory.CoreStory, Wanted.Wanted}

-- How the story of a core is told: whether each retirement has a row, and the names of the program.
pub record StoryRows : Type 0 where
  pub all : Bool
  pub names : Table

abbrev pub rows_of : CoreStory → StoryRows
rows_of story = record { all = story.all; names = table_of story.names.now }

-- What is wanted of a core beside its report.
pub record Wants : Type 0 where
  pub story : Option StoryRows
  pub records : Bool
  pub tables : Bool
  pub looks : Bool
  pub trace : Bool
  pub counts : Bool
  pub json : Bool
  pub ends : Option RunEnd

abbrev pub wants_of : Wanted → Wants
wants_of wanted = record {
  story = option_map rows_of wanted.story;
  records = wanted.records;
  tables = wanted.tables;
  looks = wanted.looks;
  trace = wanted.trace;
  counts = wanted.counts;
  json = wanted.json;
  ends = wanted.ends;
}

-- A story is told where `--story` stands, with all rows where `--all` does.
abbrev pub rows_wanted : Bool → Bool → Table → Option StoryRows
rows_wanted wanted all names = if wanted then Some (record { all = all; names = names }) else None

-- Why each hart stands where it does is told where `--why` stands, of a run that has ended so.
abbrev pub end_of : Bool → RunEnd → Option RunEnd
end_of why end = if why then Some end else None

abbrev pub step_wants : StepCommand → Table → Wants
step_wants step names = record {
  story = rows_wanted step.story step.all names;
  records = step.records;
  tables = step.show;
  looks = step.looks;
  trace = is_some step.trace;
  counts = step.counts;
  json = step.json;
  ends = end_of step.why Script;
}

-- A run and a check have no tables and no looks, and a run has no story.
abbrev pub run_wants : RunCommand → Wants
run_wants run = record {
  story = None;
  records = run.records;
  tables = false;
  looks = false;
  trace = is_some run.trace;
  counts = run.counts;
  json = run.json;
  ends = end_of run.why Turns;
}

abbrev pub check_wants : CheckCommand → Table → Wants
check_wants check names = record {
  story = rows_wanted check.story check.all names;
  records = check.records;
  tables = false;
  looks = false;
  trace = false;
  counts = check.counts;
  json = check.json;
  ends = end_of check.why Trace;
}
