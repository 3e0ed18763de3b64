-- What is reported of a core: what is printed of it, its trace, and the exit status. (This
-- project's own choice.)
use Rattle.std.specs.Prelude.{◌≡◌, ℕ, Bool, true, false, List, [], ◌++◌, Option, Some, None, is_some}
use Rattle.std.specs.Prelude.{length, map, option_map, reverse, take, if◌then◌else◌}
use Rattle.events.specs.declared.effect.Record.{Record}
use Rattle.smt_model.specs.{declared.config.Status.Status, Basics.below, Account.order, Account.records}
use Rattle.smt_model.specs.{Account.open_job_count, Memory.status, Memory.output}
use Rattle.core_state.specs.{View.CoreView}
use Rattle.event_text.specs.{Sinking.HasPut}
use Rattle.text_fields.specs.{Printing.Prints}
use Rattle.smt_model.specs.Touched.{looks, loads}
use Rattle.history_counts.specs.{declared.counts.Counts.Counts, Numbers.counts_of}
use Rattle.symbols.specs.Tables.{Table}
use Rattle.address_labels.specs.Labels.{Marks, no_marks}
use Rattle.report_lines.specs.Lines.{records_text, status_number}
use Rattle.reports.specs.Report.{looks_line, report_text}
use Rattle.reports.specs.{CountLines.count_lines, Counts.idle_lines, Json.json_text, Tables.AreTablesOf}
use Rattle.reports.specs.Traces.{trace_of}
use Rattle.story_text.specs.Text.{Plan}
use Rattle.plain_commands.specs.Plain.{told_text}
use Rattle.core_commands.specs.Wanted.{StoryRows, Wants}

-- How the harts of a core stand; what has retired in it, the oldest first.
abbrev pub statuses_of : CoreView → List Status
statuses_of core = map (status core.past) (below core.setup.harts)

abbrev pub retired_of : CoreView → List Record
retired_of core = reverse (records core.past)

-- The story of what has retired in a core, where it is wanted: that of the harts in the order of retirement, on the
-- plain machine of the core's own image and harts, with these marks behind its rows.
abbrev pub core_plan : CoreView → Marks → StoryRows → Plan
core_plan core marks story = record { harts = core.setup.harts; all = story.all; names = story.names; marks = marks }

abbrev pub story_of : Option StoryRows → Marks → CoreView → List ℕ
story_of story marks core = told_text (option_map (core_plan core marks) story) core.setup (order core.past)

-- The story that is kept of a core: a row for each retirement that other harts can see, with these names.
abbrev pub kept_story : Table → CoreView → List ℕ
kept_story names core = story_of (Some (record { all = false; names = names })) no_marks core

-- The text of a core's tables where they are wanted, and else none.
abbrev pub AreTables : Bool → CoreView → List ℕ → Type 0
AreTables true core text = AreTablesOf core text
AreTables false core text = text ≡ []

-- Why its harts stand where they do: some text where that is wanted, and else none.
abbrev pub AreEndReasons : Bool → List ℕ → Type 0
AreEndReasons true text = Unit {0}
AreEndReasons false text = text ≡ []

-- How many of its loads looked again, where that is wanted: its loads are those that retired with an
-- rd other than x0 and didn't stop.
abbrev pub looks_of : Bool → CoreView → List ℕ
looks_of wanted core = if wanted then looks_line (looks core.past) (loads core.past) else []

-- The numbers of its history, where they are wanted: behind the report, or in its object.
abbrev pub counts_in : Bool → CoreView → Option Counts
counts_in wanted core = if wanted then Some (counts_of core.past) else None

-- Behind them stands how many asks of each actor were answered idle.
abbrev pub numbers_text : Option Counts → ℕ → List Record → List ℕ → List ℕ
numbers_text None harts records idle = []
numbers_text (Some counts) harts records idle = count_lines counts harts records ++ idle_lines idle

-- Of the numbers for each actor that there may be, those of the actors of this core.
abbrev pub idle_of : CoreView → List ℕ → List ℕ
idle_of core idle = take (length core.setup.roles) idle

-- A report, of what an account has, and behind it the numbers and why each hart stands where it does
-- (`ends`). As an object it comes last, with the numbers in it.
abbrev pub body_text : Bool → ℕ → List Record → ℕ → List Status → List ℕ → Option Counts
    → List ℕ → List ℕ → List ℕ
body_text true events records lent statuses output counts idle ends =
    ends ++ json_text events records lent statuses output counts idle
body_text false events records lent statuses output counts idle ends =
    report_text events (length records) lent statuses output
    ++ (numbers_text counts (length statuses) records idle ++ ends)

abbrev pub body_of : Bool → Bool → CoreView → List ℕ → List ℕ → List ℕ
body_of as_json with_counts core idle ends =
    body_text as_json (length core.past) (retired_of core) (open_job_count core.setup core.past)
    (statuses_of core) (output core.past) (counts_in with_counts core) idle ends

-- What is printed of a core behind the lines of the asks: its story, its tables, how many loads looked again
-- and its records, where they are wanted, with these marks beside them, and its report, with what else is wanted; of
-- the actors' asks so many were answered idle.
pub record IsAccount (core : CoreView) (idle : List ℕ) (wanted : Wants) (marks : Marks) (text : List ℕ) : Type 0 where
  pub tables : List ℕ
  pub are_tables : AreTables wanted.tables core tables
  pub ends : List ℕ
  pub are_ends : AreEndReasons (is_some wanted.ends) ends
  pub whole : text
      ≡ story_of wanted.story marks core ++ (tables ++ (looks_of wanted.looks core
      ++ (records_text wanted.records marks (retired_of core)
      ++ body_of wanted.json wanted.counts core idle ends)))

-- The account of a core is printed, and the exit status is that of its harts.
pub record IsReported (core : CoreView) (idle : List ℕ) (wanted : Wants) (marks : Marks) (old new : Option (List ℕ))
    (exit_status : ℕ) : Type 0 where
  pub printed : Prints old new (IsAccount core idle wanted marks)
  pub harts : exit_status ≡ status_number (statuses_of core)

-- Where the trace of a core is wanted, a sink took all of it, and hasn't failed; else nothing went
-- into the sink. A sink says of its values what was put and whether it has failed.
abbrev pub IsTraceWritten : {S : Type 0} → (S → Option (List ℕ)) → (S → Bool) → S → S → Bool
    → CoreView → Type 0
IsTraceWritten written has_failed old new true core =
    HasPut written has_failed old new (trace_of core)
IsTraceWritten written has_failed old new false core = new ≡ old
