-- What the words of the command line ask for.
use Rattle.std.specs.Prelude.{None, ◌≡◌, ◌≢◌, ℕ, ◌-◌, ◌^◌, nat_le, not, ◌&&◌, ◌||◌, Bool, true, false, List, [], ◌∷◌}
use Rattle.std.specs.Prelude.{Option, Some, is_some, length, ◌==◌}
use Rattle.std.specs.Prelude.{IsSomeAnd, option_map, codes, if◌then◌else◌}
use Rattle.std.specs.{Borrow.Bor, Option.option_map_or, Result.result_ok, Str.bytes_eq}
use Rattle.numbers.specs.Sizes.{most_events, most_harts}
use Rattle.text_fields.specs.Reading.{decimal_field}
use Rattle.clap.specs.Words.{App, Row, Rule, Text, IsAmong, app_of, rule_of, fault_of, first_of}
use Rattle.clap.specs.Words.{subcommand_of}
use Rattle.clap.specs.{declared.builder.arg.Arg.Arg, declared.builder.command.Command.Command}
use Rattle.clap.specs.{declared.builder.command.Command.TheViews.out-Command}
use Rattle.clap.specs.{declared.error.kind.ErrorKind.ErrorKind}
use Rattle.clap.specs.{declared.error.kind.ErrorKind.TheVariants.DisplayHelp}
use Rattle.clap.specs.{declared.error.kind.ErrorKind.TheVariants.DisplayVersion}
use Rattle.clap.specs.{declared.error.kind.ErrorKind.TheVariants.OutOfMemory}
use Rattle.sim_inputs.specs.{declared.line.Line.Line, declared.line.WordsRefused.WordsRefused}
use Rattle.sim_inputs.specs.declared.line.Command.{Command as LineCommand}
use Rattle.sim_inputs.specs.declared.line.Command.TheVariants as commands
use Rattle.sim_inputs.specs.declared.line.ProgramCommand.{ProgramCommand}
use Rattle.sim_inputs.specs.declared.line.ProgramCommand.TheVariants as program
use Rattle.sim_inputs.specs.declared.line.{StepCommand.StepCommand, RunCommand.RunCommand}
use Rattle.sim_inputs.specs.declared.line.{CheckCommand.CheckCommand, PlainCommand.PlainCommand}
use Rattle.sim_inputs.specs.declared.line.{ScheduleCommand.ScheduleCommand}
use Rattle.sim_inputs.specs.declared.line.{ScriptCommand.ScriptCommand, ListCommand.ListCommand}
use Rattle.sim_inputs.specs.declared.line.{ChartCommand.ChartCommand, ExplainCommand.ExplainCommand}
use Rattle.sim_inputs.specs.{declared.line.WordsRefused.TheVariants.Help}
use Rattle.sim_inputs.specs.{declared.line.WordsRefused.TheVariants.Version}
use Rattle.sim_inputs.specs.{declared.line.WordsRefused.TheVariants.Refused}
use Rattle.sim_inputs.specs.{declared.line.WordsRefused.TheVariants.Memory}
use Rattle.sim_inputs.specs.declared.line.OutcomesCommand.{OutcomesCommand}
use Rattle.sim_inputs.specs.declared.line.{LitmusCommand.LitmusCommand, MigrateCommand.MigrateCommand}
use Rattle.sim_inputs.specs.declared.line.{Beside.Beside}
use Rattle.sim_inputs.specs.declared.line.Beside.TheVariants as beside
use Rattle.sim_inputs.specs.declared.line.{QuestionText.QuestionText}
use Rattle.sim_inputs.specs.declared.line.QuestionText.TheVariants as question
use Rattle.sim_inputs.specs.declared.line.{ChartEnd.ChartEnd}
use Rattle.sim_inputs.specs.declared.line.ChartEnd.TheVariants as ends
use Rattle.sim_inputs.specs.ChartEnds.{IsEndOf}
use Rattle.sim_inputs.specs.ChartOptions.{can_be_drawn, columns_in}
use Rattle.sim_inputs.specs.Rules.{smtsim}
use Rattle.sim_inputs.specs.Files.{is_standard_input, reads_input_once, writes_no_dash}
use Rattle.sim_inputs.specs.HintsWanted.{hints_in}
use Rattle.sim_inputs.specs.LeftOut.{IsWithout}
use Rattle.sim_inputs.specs.TestOrders.{order_asked}
use Rattle.sim_inputs.specs.Themes.{can_be_themed, shade_of, theme_in}
use Rattle.sim_inputs.specs.SeveralTests.{are_several, is_made_alone, is_told_alone, names_input, tests_in}
use Rattle.story_pictures.specs.declared.form.Theme.{Theme}

-- The last event that a history may have; the last hart that a core may have; how often a program is
-- run at the most; the most instructions of a turn and of all rounds, and the last seed; and how many
-- characters a line of a chart has, or events a band of a picture, usually and at the most.
abbrev pub last_place : ℕ
last_place = most_events - 1

abbrev pub last_hart : ℕ
last_hart = most_harts - 1

abbrev pub most_times : ℕ
most_times = 1000000

abbrev pub most_rounds : ℕ
most_rounds = 2 ^ 32 - 1

abbrev pub usual_columns : ℕ
usual_columns = 120

abbrev pub most_columns : ℕ
most_columns = 10000

-- How many states are looked at the most, where nothing else is said, and how many may be asked for.
abbrev pub usual_states : ℕ
usual_states = 1000000

abbrev pub most_states : ℕ
most_states = 2 ^ 32 - 1

-- What `clap` is given: an argument and a command as data, neither of them for the commands below
-- too.
pub record IsArgument (described : Rule) (argument : Arg) : Type 0 where
  pub rule : rule_of argument ≡ described
  pub local : argument.global ≡ false

pub record IsCommand (described : App) (command : Command) : Type 0 where
  pub app : app_of command ≡ described
  pub local : (out-Command command).has_globals ≡ false

-- A flag is set: its value is "true".
abbrev pub is_flag_set : Text → List Row → Bool
is_flag_set name rows =
    option_map_or (λ value. bytes_eq value (codes "true")) (first_of name rows) false

-- The answer is one of which this holds; there is none where it holds of none.
abbrev pub Finds : {A : Type 0} → (A → Type 0) → Option A → Type 0
Finds {A} Holds None = (one : A) → Holds one → ⊥
Finds Holds (Some found) = Holds found

-- What was found for a file that must be there, and for one that may be there, or another text.
abbrev IsFile : List Row → Text → Bor Text → Type 0
IsFile rows name file = first_of name rows ≡ Some file.now

abbrev IsFileOption : List Row → Text → Option (Bor Text) → Type 0
IsFileOption rows name file = first_of name rows ≡ option_map (λ f. f.now) file

-- The colours of a picture, if some were given.
abbrev IsTheme : List Row → Option Theme → Type 0
IsTheme rows theme = theme_in (first_of (codes "theme") rows) ≡ Some theme

-- What was found for a flag.
abbrev IsFlag : List Row → Text → Bool → Type 0
IsFlag rows name flag = is_flag_set name rows ≡ flag

-- The number that was found for an option, of at most `greatest`; the default where it isn't given.
abbrev pub number_or : ℕ → ℕ → Option Text → Option ℕ
number_or default greatest None = Some default
number_or default greatest (Some text) = result_ok (decimal_field greatest text)

abbrev IsNumber : List Row → Text → ℕ → ℕ → ℕ → Type 0
IsNumber rows name default greatest number = number_or default greatest (first_of name rows) ≡ Some number

-- So it is with one that has no default.
abbrev pub number_in : ℕ → Option Text → Option (Option ℕ)
number_in greatest None = Some None
number_in greatest (Some text) = option_map (λ number. Some number) (result_ok (decimal_field greatest text))

abbrev IsNumberOption : List Row → Text → ℕ → Option ℕ → Type 0
IsNumberOption rows name greatest number = number_in greatest (first_of name rows) ≡ Some number

-- So many harts are asked for, where that was found.
pub record AreHarts (rows : List Row) (harts : Option ℕ) : Type 0 where
  pub found : IsNumberOption rows (codes "harts") most_harts harts
  pub some : option_map_or (λ count. nat_le 1 count) harts true ≡ true

-- What says more of a story is there with one alone.
abbrev pub can_be_told : Bool → Bool → Bool
can_be_told story all = story || not all

-- What was found for a subcommand's arguments and options is the command.
pub record IsStep (rows : List Row) (step : StepCommand) : Type 0 where
  pub image : IsFile rows (codes "IMAGE") step.image
  pub script : IsFile rows (codes "SCRIPT") step.script
  pub trace : IsFileOption rows (codes "trace") step.trace
  pub counts : IsFlag rows (codes "counts") step.counts
  pub json : IsFlag rows (codes "json") step.json
  pub looks : IsFlag rows (codes "looks") step.looks
  pub lines : IsFileOption rows (codes "lines") step.lines
  pub names : IsFlag rows (codes "names") step.names
  pub records : IsFlag rows (codes "records") step.records
  pub show : IsFlag rows (codes "show") step.show
  pub story : IsFlag rows (codes "story") step.story
  pub all : IsFlag rows (codes "all") step.all
  pub why : IsFlag rows (codes "why") step.why
  pub together : can_be_told step.story step.all ≡ true

-- What is asked of outcomes, or of many runs: one question, or none.
pub record IsAskedAlone (rows : List Row) (exists forall never : Option Text) (never_stuck : Bool) : Type 0 where
  pub has_exists : first_of (codes "exists") rows ≡ exists
  pub has_forall : first_of (codes "forall") rows ≡ forall
  pub has_never : first_of (codes "never") rows ≡ never
  pub has_never_stuck : is_flag_set (codes "never-stuck") rows ≡ never_stuck

abbrev pub IsQuestion : List Row → Option QuestionText → Type 0
IsQuestion rows None = IsAskedAlone rows None None None false
IsQuestion rows (Some (question.Exists text)) = IsAskedAlone rows (Some text.now) None None false
IsQuestion rows (Some (question.ForAll text)) = IsAskedAlone rows None (Some text.now) None false
IsQuestion rows (Some (question.Never text)) = IsAskedAlone rows None None (Some text.now) false
IsQuestion rows (Some question.NeverStuck) = IsAskedAlone rows None None None true

-- So it is of outcomes, where why a condition holds of none may be asked in place of a question: that asks whether it
-- holds of none, too.
abbrev pub AsksWhy : List Row → Option QuestionText → Type 0
AsksWhy rows (Some (question.Never text)) = (first_of (codes "why") rows ≡ Some text.now) × IsQuestion rows None
AsksWhy rows other = ⊥

abbrev pub IsAskedBy : List Row → Option QuestionText → Bool → Type 0
IsAskedBy rows asked true = AsksWhy rows asked
IsAskedBy rows asked false = (first_of (codes "why") rows ≡ None) × IsQuestion rows asked

-- A run has an option of its report. Many runs have none, and a folder of theirs has a name, which is no dash; there
-- is one at least, and one alone has no folder, and nothing of it is watched or asked.
abbrev pub is_reported : RunCommand → Bool
is_reported run = is_some run.trace || run.counts || run.json || is_some run.lines || run.names || run.records || run.why

abbrev pub has_named_folder : RunCommand → Bool
has_named_folder run =
    option_map_or (λ folder. not (length folder.now == 0) && not (is_standard_input folder.now)) run.keep true

abbrev pub can_be_run : RunCommand → Bool
can_be_run run = let once = not (is_some run.keep) && not (is_some run.watch) && not (is_some run.question) in
    option_map_or (λ times. nat_le 1 times && not (is_reported run) && has_named_folder run) run.times once

pub record IsRun (rows : List Row) (run : RunCommand) : Type 0 where
  pub image : IsFile rows (codes "IMAGE") run.image
  pub trace : IsFileOption rows (codes "trace") run.trace
  pub counts : IsFlag rows (codes "counts") run.counts
  pub json : IsFlag rows (codes "json") run.json
  pub lines : IsFileOption rows (codes "lines") run.lines
  pub names : IsFlag rows (codes "names") run.names
  pub records : IsFlag rows (codes "records") run.records
  pub why : IsFlag rows (codes "why") run.why
  pub times : IsNumberOption rows (codes "times") most_times run.times
  pub watch : IsFileOption rows (codes "watch") run.watch
  pub question : IsQuestion rows run.question
  pub keep : IsFileOption rows (codes "keep") run.keep
  pub together : can_be_run run ≡ true

pub record IsCheck (rows : List Row) (check : CheckCommand) : Type 0 where
  pub image : IsFile rows (codes "IMAGE") check.image
  pub trace : IsFile rows (codes "TRACE") check.trace
  pub counts : IsFlag rows (codes "counts") check.counts
  pub json : IsFlag rows (codes "json") check.json
  pub lines : IsFileOption rows (codes "lines") check.lines
  pub names : IsFlag rows (codes "names") check.names
  pub records : IsFlag rows (codes "records") check.records
  pub story : IsFlag rows (codes "story") check.story
  pub all : IsFlag rows (codes "all") check.all
  pub why : IsFlag rows (codes "why") check.why
  pub together : can_be_told check.story check.all ≡ true

-- There is either an order or rounds, of an instruction at least, and what says more of rounds is there
-- with them alone; a story, told or drawn, is there with an order alone, what tells more with one that is told, and colours with a picture.
abbrev pub shows_story : PlainCommand → Bool
shows_story plain = plain.story || is_some plain.story_svg

abbrev pub can_be_plain : PlainCommand → Bool
can_be_plain plain =
    let told = can_be_told plain.story plain.all && can_be_themed (is_some plain.story_svg) (is_some plain.theme) in
    let ordered = is_some plain.order && (not (is_some plain.steps) && (not (is_some plain.seed) && told)) in
    option_map_or (λ rounds. nat_le 1 rounds && (not (is_some plain.order) && (not (shows_story plain) && told)))
    plain.rounds ordered

pub record IsPlain (rows : List Row) (plain : PlainCommand) : Type 0 where
  pub image : IsFile rows (codes "IMAGE") plain.image
  pub order : IsFileOption rows (codes "ORDER") plain.order
  pub rounds : IsNumberOption rows (codes "rounds") most_rounds plain.rounds
  pub steps : IsNumberOption rows (codes "steps") most_rounds plain.steps
  pub seed : IsNumberOption rows (codes "seed") most_rounds plain.seed
  pub lines : IsFileOption rows (codes "lines") plain.lines
  pub names : IsFlag rows (codes "names") plain.names
  pub records : IsFlag rows (codes "records") plain.records
  pub story : IsFlag rows (codes "story") plain.story
  pub story_svg : IsFileOption rows (codes "story-svg") plain.story_svg
  pub theme : IsTheme rows plain.theme
  pub all : IsFlag rows (codes "all") plain.all
  pub together : can_be_plain plain ≡ true

pub record IsSchedule (rows : List Row) (schedule : ScheduleCommand) : Type 0 where
  pub image : IsFile rows (codes "IMAGE") schedule.image
  pub order : IsFile rows (codes "ORDER") schedule.order

pub record IsScript (rows : List Row) (script : ScriptCommand) : Type 0 where
  pub image : IsFile rows (codes "IMAGE") script.image
  pub trace : IsFile rows (codes "TRACE") script.trace

pub record IsList (rows : List Row) (list : ListCommand) : Type 0 where
  pub image : IsFile rows (codes "IMAGE") list.image
  pub lines : IsFileOption rows (codes "lines") list.lines
  pub names : IsFlag rows (codes "names") list.names

-- Where a chart begins or ends: at the default event, where the option isn't given, or where its word says.
abbrev pub IsEndIn : Option Text → ℕ → ℕ → ChartEnd → Type 0
IsEndIn None default greatest end = end ≡ ends.Event default
IsEndIn (Some word) default greatest end = IsEndOf word greatest end

abbrev pub IsEnd : List Row → Text → ℕ → ℕ → ChartEnd → Type 0
IsEnd rows name default greatest end = IsEndIn (first_of name rows) default greatest end

pub record IsChart (rows : List Row) (chart : ChartCommand) : Type 0 where
  pub image : IsFile rows (codes "IMAGE") chart.image
  pub trace : IsFile rows (codes "TRACE") chart.trace
  pub from : IsEnd rows (codes "from") 0 last_place chart.from
  pub to : IsEnd rows (codes "to") last_place last_place chart.to
  pub hart : IsNumberOption rows (codes "hart") last_hart chart.hart
  pub names : IsFlag rows (codes "names") chart.names
  pub width : IsNumber rows (codes "width") usual_columns most_columns chart.width
  pub columns : columns_in (first_of (codes "columns") rows) ≡ Some chart.columns
  pub registers : IsFlag rows (codes "registers") chart.registers
  pub counters : IsFlag rows (codes "counters") chart.counters
  pub svg : IsFileOption rows (codes "svg") chart.svg
  pub kanata : IsFileOption rows (codes "kanata") chart.kanata
  pub title : IsFileOption rows (codes "title") chart.title
  pub theme : shade_of (is_flag_set (codes "light") rows) (is_flag_set (codes "dark") rows) ≡ Some chart.theme
  pub together : can_be_drawn chart ≡ true

-- What is explained beside an image: a script, an order, a trace, or nothing.
abbrev pub IsBeside : List Row → Option Beside → Type 0
IsBeside rows (Some (beside.Script script)) =
    IsFile rows (codes "script") script × (first_of (codes "order") rows ≡ None) × (first_of (codes "trace") rows ≡ None)
IsBeside rows (Some (beside.Order order)) =
    IsFile rows (codes "order") order × (first_of (codes "script") rows ≡ None) × (first_of (codes "trace") rows ≡ None)
IsBeside rows (Some (beside.Trace trace)) =
    IsFile rows (codes "trace") trace × (first_of (codes "script") rows ≡ None) × (first_of (codes "order") rows ≡ None)
IsBeside rows None = (first_of (codes "script") rows ≡ None) × (first_of (codes "order") rows ≡ None)
    × (first_of (codes "trace") rows ≡ None)

pub record IsExplain (rows : List Row) (explain : ExplainCommand) : Type 0 where
  pub image : IsFile rows (codes "IMAGE") explain.image
  pub beside : IsBeside rows explain.beside

-- A question is asked that has a condition.
abbrev pub has_condition : Option QuestionText → Bool
has_condition None = false
has_condition (Some question.NeverStuck) = false
has_condition (Some other) = true

-- An order has one file, as it is, as its script, as its story or as a picture of that; or it has none.
abbrev pub has_story : OutcomesCommand → Bool
has_story outcomes = is_some outcomes.story || is_some outcomes.story_svg

abbrev pub has_one_story : OutcomesCommand → Bool
has_one_story outcomes =
    if is_some outcomes.story then not (is_some outcomes.story_svg) else is_some outcomes.story_svg

abbrev pub has_one_file : OutcomesCommand → Bool
has_one_file outcomes =
    if is_some outcomes.witness then not (is_some outcomes.script) && not (has_story outcomes)
    else (if is_some outcomes.script then not (has_story outcomes) else has_one_story outcomes)

abbrev pub has_no_file : OutcomesCommand → Bool
has_no_file outcomes =
    not (is_some outcomes.witness) && not (is_some outcomes.script) && not (has_story outcomes)

-- Some state is looked at. An order is written of an outcome, from 1, or of a state that is stuck, and
-- of one of them alone; or of what answers the question.
abbrev pub are_orders_together : OutcomesCommand → Bool
are_orders_together outcomes =
    let asked = if is_some outcomes.question then has_no_file outcomes || has_one_file outcomes
    else has_no_file outcomes in
    let without = if outcomes.stuck then has_one_file outcomes else asked in
    option_map_or (λ number. nat_le 1 number && not outcomes.stuck && has_one_file outcomes)
    outcomes.outcome without

-- What a story shows beside its rows is said of a story; each step has a row in one that is told, not drawn. Source
-- lines stand behind the accesses of why, too.
abbrev pub are_stories_together : OutcomesCommand → Bool
are_stories_together outcomes = is_some outcomes.story
    || (not outcomes.all && ((is_some outcomes.story_svg || outcomes.why) || not (is_some outcomes.lines)))

-- Why a condition holds of none is told of all outcomes, with no order beside it; and a picture is drawn of that alone.
abbrev pub are_reasons_together : OutcomesCommand → Bool
are_reasons_together outcomes =
    if outcomes.why
    then not outcomes.first && not (is_some outcomes.outcome) && not outcomes.stuck && has_no_file outcomes
    else not (is_some outcomes.svg)

-- The search ends at the first answer where a condition is asked, and then it isn't told how it went; and a picture of a
-- story alone has colours.
abbrev pub can_be_searched : OutcomesCommand → Bool
can_be_searched outcomes = nat_le 1 outcomes.states && are_orders_together outcomes
    && (not outcomes.first || has_condition outcomes.question)
    && (not outcomes.how || not outcomes.first)
    && are_stories_together outcomes
    && are_reasons_together outcomes
    && can_be_themed (is_some outcomes.story_svg) (is_some outcomes.theme)

pub record IsOutcomes (rows : List Row) (outcomes : OutcomesCommand) : Type 0 where
  pub image : IsFile rows (codes "IMAGE") outcomes.image
  pub states : IsNumber rows (codes "states") usual_states most_states outcomes.states
  pub watch : IsFileOption rows (codes "watch") outcomes.watch
  pub question : IsAskedBy rows outcomes.question outcomes.why
  pub svg : IsFileOption rows (codes "svg") outcomes.svg
  pub first : IsFlag rows (codes "first") outcomes.first
  pub outcome : IsNumberOption rows (codes "outcome") most_states outcomes.outcome
  pub stuck : IsFlag rows (codes "stuck") outcomes.stuck
  pub witness : IsFileOption rows (codes "witness") outcomes.witness
  pub script : IsFileOption rows (codes "script") outcomes.script
  pub story : IsFileOption rows (codes "story") outcomes.story
  pub story_svg : IsFileOption rows (codes "story-svg") outcomes.story_svg
  pub theme : IsTheme rows outcomes.theme
  pub all : IsFlag rows (codes "all") outcomes.all
  pub lines : IsFileOption rows (codes "lines") outcomes.lines
  pub without : IsWithout (first_of (codes "without") rows) outcomes.without
  pub how : IsFlag rows (codes "how") outcomes.how
  pub together : can_be_searched outcomes ≡ true

-- Of a litmus test one file at most is written: the image, the picture of why, or what is written of an order.
abbrev pub are_files_apart : LitmusCommand → Bool
are_files_apart litmus = if is_some litmus.image then not (is_some litmus.svg) && not (is_some litmus.outcome)
    else (not (is_some litmus.svg) || not (is_some litmus.outcome))

-- There is one run of the core at least, where some are made, and then nothing is asked of the states.
abbrev pub are_runs_alone : LitmusCommand → Bool
are_runs_alone litmus = option_map_or
    (λ times. nat_le 1 times && not (is_some litmus.outcome) && not (is_some litmus.svg) && not litmus.why)
    litmus.run true

-- Some state is looked at, and an order is written of one of them, from 1, in one way; or none is. What is made of one
-- test has no other beside it, and what stands in place of the states is alone too.
abbrev pub can_be_tested : LitmusCommand → Bool
can_be_tested litmus = can_be_searched (order_asked litmus) && are_files_apart litmus && are_runs_alone litmus
    && is_made_alone litmus && is_told_alone litmus

pub record IsLitmus (rows : List Row) (litmus : LitmusCommand) : Type 0 where
  pub test : IsFile rows (codes "TEST") litmus.test
  pub states : IsNumber rows (codes "states") usual_states most_states litmus.states
  pub why : IsFlag rows (codes "why") litmus.why
  pub image : IsFileOption rows (codes "image") litmus.image
  pub svg : IsFileOption rows (codes "svg") litmus.svg
  pub outcome : IsNumberOption rows (codes "outcome") most_states litmus.outcome
  pub witness : IsFileOption rows (codes "witness") litmus.witness
  pub script : IsFileOption rows (codes "script") litmus.script
  pub story : IsFileOption rows (codes "story") litmus.story
  pub story_svg : IsFileOption rows (codes "story-svg") litmus.story_svg
  pub theme : IsTheme rows litmus.theme
  pub all : IsFlag rows (codes "all") litmus.all
  pub run : IsNumberOption rows (codes "run") most_times litmus.run
  pub summary : IsFlag rows (codes "summary") litmus.summary
  pub expect : IsFileOption rows (codes "expect") litmus.expect
  pub several : are_several (tests_in rows) ≡ litmus.several
  pub together : can_be_tested litmus ≡ true
  pub no_input : litmus.several && names_input (tests_in rows) ≡ false

pub record IsMigrate (rows : List Row) (migrate : MigrateCommand) : Type 0 where
  pub trace : IsFile rows (codes "TRACE") migrate.trace
  pub out : IsFile rows (codes "OUT") migrate.out

-- A subcommand of this name, with what was found for it, is the command of a program.
abbrev pub IsProgramCommandOf : Text → List Row → ProgramCommand → Type 0
IsProgramCommandOf name rows (program.Step step) = (name ≡ codes "step") × IsStep rows step
IsProgramCommandOf name rows (program.Run run) = (name ≡ codes "run") × IsRun rows run
IsProgramCommandOf name rows (program.Check check) = (name ≡ codes "check") × IsCheck rows check
IsProgramCommandOf name rows (program.Plain plain) = (name ≡ codes "plain") × IsPlain rows plain
IsProgramCommandOf name rows (program.Schedule schedule) =
    (name ≡ codes "schedule") × IsSchedule rows schedule
IsProgramCommandOf name rows (program.Script script) = (name ≡ codes "script") × IsScript rows script
IsProgramCommandOf name rows (program.List list) = (name ≡ codes "list") × IsList rows list
IsProgramCommandOf name rows (program.Chart chart) = (name ≡ codes "chart") × IsChart rows chart
IsProgramCommandOf name rows (program.Outcomes outcomes) =
    (name ≡ codes "outcomes") × IsOutcomes rows outcomes

-- So it is the command, of a program or of something else.
abbrev pub IsCommandOf : Text → List Row → LineCommand → Type 0
IsCommandOf name rows (commands.OfProgram command) = IsProgramCommandOf name rows command
IsCommandOf name rows (commands.Explain explain) = (name ≡ codes "explain") × IsExplain rows explain
IsCommandOf name rows (commands.Litmus litmus) = (name ≡ codes "litmus") × IsLitmus rows litmus
IsCommandOf name rows (commands.Migrate migrate) = (name ≡ codes "migrate") × IsMigrate rows migrate

-- A subcommand of this name, with what was found for it, is the line: its command, and the configuration and the word
-- of `--hints`, which every command may have, and the harts that most may have. One of its files at most is standard
-- input, and none that is written is named by a dash.
pub record IsLineOf (name : Text) (rows : List Row) (line : Line) : Type 0 where
  pub config : IsFileOption rows (codes "config") line.config
  pub harts : AreHarts rows line.harts
  pub command : IsCommandOf name rows line.command
  pub hints : hints_in (first_of (codes "hints") rows) ≡ Some line.hints
  pub once : reads_input_once line ≡ true
  pub undashed : writes_no_dash line ≡ true

-- A subcommand was found, and it is the line.
abbrev pub Names : Option (Text × List Row) → Line → Type 0
Names found line = IsSomeAnd found (λ p. IsLineOf p.0 p.1 line)

-- The words, the program's name first, ask for the line: the command line takes them without a
-- fault, and they hold the line's subcommand, files and options.
pub record Asks (words : List Text) (line : Line) : Type 0 where
  pub taken : fault_of smtsim words ≡ []
  pub holds : Names (subcommand_of smtsim words) line

-- The words ask for nothing: for no line, and not just for help or the version.
pub record AsksNothing (words : List Text) : Type 0 where
  pub no_line : (line : Line) → Asks words line → ⊥
  pub no_help : fault_of smtsim words ≢ DisplayHelp ∷ []
  pub no_version : fault_of smtsim words ≢ DisplayVersion ∷ []

-- When each refusal comes.
abbrev pub AreWordsRefusedFor : List Text → WordsRefused → Type 0
AreWordsRefusedFor words (Help text) = IsAmong DisplayHelp (fault_of smtsim words)
AreWordsRefusedFor words (Version text) = IsAmong DisplayVersion (fault_of smtsim words)
AreWordsRefusedFor words Refused = AsksNothing words
AreWordsRefusedFor words Memory = Unit {0}

-- What is made of an error of this kind.
abbrev pub IsRefusalOf : ErrorKind → WordsRefused → Type 0
IsRefusalOf kind (Help text) = kind ≡ DisplayHelp
IsRefusalOf kind (Version text) = kind ≡ DisplayVersion
IsRefusalOf kind Refused = (kind ≢ DisplayHelp) × (kind ≢ DisplayVersion) × (kind ≢ OutOfMemory)
IsRefusalOf kind Memory = Unit {0}
