-- The command line as data: its subcommands, with their arguments and options. (This project's own
-- choice.)
use Rattle.std.specs.Prelude.{true, List, [], ◌∷◌, ◌++◌, Some, codes}
use Rattle.std.specs.{List.fold}
use Rattle.clap.specs.Words.{App, Rule, Text, new_app, new_rule, with_rule, with_subcommand}
use Rattle.clap.specs.{declared.builder.action.ArgAction.TheVariants.SetTrue}
use Rattle.clap.specs.{declared.builder.action.ArgAction.TheVariants.Append}

-- An argument that names a file and must be there: the image, the script, the trace, the order, the
-- litmus test, and the file that a migration writes.
abbrev pub file_rule : Text → Rule
file_rule name = record (new_rule name) { required = true }

-- One that names files, of which one must be there: litmus tests.
abbrev pub files_rule : Text → Rule
files_rule name = record (new_rule name) { required = true; action = Some Append }

-- One that names a file and may be there: the order, in whose place there may be rounds.
abbrev pub optional_file_rule : Text → Rule
optional_file_rule name = new_rule name

-- An option that names a file or a folder, and a flag.
abbrev pub file_option_rule : Text → Rule
file_option_rule name = record (new_rule name) { long = Some name; value_names = 1 }

abbrev pub flag_rule : Text → Rule
flag_rule name = record (new_rule name) { long = Some name; action = Some SetTrue }

abbrev pub image_rule : Rule
image_rule = file_rule (codes "IMAGE")

abbrev pub script_rule : Rule
script_rule = file_rule (codes "SCRIPT")

abbrev pub trace_rule : Rule
trace_rule = file_rule (codes "TRACE")

abbrev pub order_rule : Rule
order_rule = file_rule (codes "ORDER")

abbrev pub order_or_rounds_rule : Rule
order_or_rounds_rule = optional_file_rule (codes "ORDER")

abbrev pub config_rule : Rule
config_rule = file_option_rule (codes "config")

abbrev pub counts_rule : Rule
counts_rule = flag_rule (codes "counts")

abbrev pub json_rule : Rule
json_rule = flag_rule (codes "json")

abbrev pub lines_rule : Rule
lines_rule = file_option_rule (codes "lines")

abbrev pub names_rule : Rule
names_rule = flag_rule (codes "names")

abbrev pub keep_rule : Rule
keep_rule = file_option_rule (codes "keep")

abbrev pub looks_rule : Rule
looks_rule = flag_rule (codes "looks")

abbrev pub records_rule : Rule
records_rule = flag_rule (codes "records")

abbrev pub story_rule : Rule
story_rule = flag_rule (codes "story")

abbrev pub story_svg_rule : Rule
story_svg_rule = file_option_rule (codes "story-svg")

abbrev pub all_rule : Rule
all_rule = flag_rule (codes "all")

abbrev pub show_rule : Rule
show_rule = flag_rule (codes "show")

abbrev pub why_rule : Rule
why_rule = flag_rule (codes "why")

abbrev pub written_trace_rule : Rule
written_trace_rule = file_option_rule (codes "trace")

-- An option that has a number.
abbrev pub number_option_rule : Text → Rule
number_option_rule name = record (new_rule name) { long = Some name; value_names = 1 }

-- One that has a text: what is watched, a condition, or where a chart begins.
abbrev pub text_option_rule : Text → Rule
text_option_rule name = record (new_rule name) { long = Some name; value_names = 1 }

abbrev pub from_rule : Rule
from_rule = text_option_rule (codes "from")

abbrev pub to_rule : Rule
to_rule = text_option_rule (codes "to")

abbrev pub harts_rule : Rule
harts_rule = number_option_rule (codes "harts")

abbrev pub hart_rule : Rule
hart_rule = number_option_rule (codes "hart")

abbrev pub width_rule : Rule
width_rule = number_option_rule (codes "width")

abbrev pub times_rule : Rule
times_rule = number_option_rule (codes "times")

abbrev pub rounds_rule : Rule
rounds_rule = number_option_rule (codes "rounds")

abbrev pub steps_rule : Rule
steps_rule = number_option_rule (codes "steps")

abbrev pub seed_rule : Rule
seed_rule = number_option_rule (codes "seed")

abbrev pub svg_rule : Rule
svg_rule = file_option_rule (codes "svg")

abbrev pub kanata_rule : Rule
kanata_rule = file_option_rule (codes "kanata")

abbrev pub columns_rule : Rule
columns_rule = text_option_rule (codes "columns")

abbrev pub registers_rule : Rule
registers_rule = flag_rule (codes "registers")

abbrev pub counters_rule : Rule
counters_rule = flag_rule (codes "counters")

abbrev pub title_rule : Rule
title_rule = text_option_rule (codes "title")

abbrev pub light_rule : Rule
light_rule = flag_rule (codes "light")

abbrev pub dark_rule : Rule
dark_rule = flag_rule (codes "dark")

abbrev pub without_rule : Rule
without_rule = text_option_rule (codes "without")

abbrev pub how_rule : Rule
how_rule = flag_rule (codes "how")

abbrev pub states_rule : Rule
states_rule = number_option_rule (codes "states")

abbrev pub theme_rule : Rule
theme_rule = text_option_rule (codes "theme")

abbrev pub watch_rule : Rule
watch_rule = text_option_rule (codes "watch")

abbrev pub exists_rule : Rule
exists_rule = text_option_rule (codes "exists")

abbrev pub forall_rule : Rule
forall_rule = text_option_rule (codes "forall")

abbrev pub never_rule : Rule
never_rule = text_option_rule (codes "never")

abbrev pub never_stuck_rule : Rule
never_stuck_rule = flag_rule (codes "never-stuck")

abbrev pub why_none_rule : Rule
why_none_rule = text_option_rule (codes "why")

abbrev pub first_rule : Rule
first_rule = flag_rule (codes "first")

abbrev pub outcome_rule : Rule
outcome_rule = number_option_rule (codes "outcome")

abbrev pub stuck_rule : Rule
stuck_rule = flag_rule (codes "stuck")

abbrev pub witness_rule : Rule
witness_rule = file_option_rule (codes "witness")

abbrev pub written_script_rule : Rule
written_script_rule = file_option_rule (codes "script")

abbrev pub written_story_rule : Rule
written_story_rule = file_option_rule (codes "story")

abbrev pub explained_script_rule : Rule
explained_script_rule = file_option_rule (codes "script")

abbrev pub explained_order_rule : Rule
explained_order_rule = file_option_rule (codes "order")

abbrev pub run_rule : Rule
run_rule = number_option_rule (codes "run")

abbrev pub test_rule : Rule
test_rule = files_rule (codes "TEST")

abbrev pub summary_rule : Rule
summary_rule = flag_rule (codes "summary")

abbrev pub expect_rule : Rule
expect_rule = file_option_rule (codes "expect")

abbrev pub written_image_rule : Rule
written_image_rule = file_option_rule (codes "image")

abbrev pub written_out_rule : Rule
written_out_rule = file_rule (codes "OUT")

-- The option of all subcommands.
abbrev pub hints_rule : Rule
hints_rule = text_option_rule (codes "hints")

-- A subcommand of this name, with its arguments in order, and `--hints WHEN` behind them.
abbrev pub subcommand : Text → List Rule → App
subcommand name rules = with_rule (fold with_rule (new_app name) rules) hints_rule

-- `step IMAGE SCRIPT`, with `--config FILE`, `--harts N`, `--counts`, `--json`, `--lines FILE`, `--looks`, `--names`,
-- `--records`, `--show`, `--story`, `--all`, `--why` and `--trace FILE`.
abbrev pub step_command : App
step_command = subcommand (codes "step") (image_rule ∷ script_rule ∷ config_rule ∷ harts_rule ∷ counts_rule ∷ json_rule
    ∷ lines_rule ∷ looks_rule ∷ names_rule ∷ records_rule ∷ show_rule ∷ story_rule ∷ all_rule ∷ why_rule
    ∷ written_trace_rule ∷ [])

-- `run IMAGE`, with `--config FILE`, `--harts N`, `--counts`, `--json`, `--lines FILE`, `--names`, `--records`,
-- `--why`, `--times N`, `--watch LIST`, `--exists CONDITION`, `--forall CONDITION`, `--never CONDITION`,
-- `--keep FOLDER` and `--trace FILE`.
abbrev pub run_command : App
run_command = subcommand (codes "run") (image_rule ∷ config_rule ∷ harts_rule ∷ counts_rule ∷ json_rule ∷ lines_rule
    ∷ names_rule ∷ records_rule ∷ why_rule ∷ times_rule ∷ watch_rule ∷ exists_rule ∷ forall_rule ∷ never_rule
    ∷ keep_rule ∷ written_trace_rule ∷ [])

-- `check IMAGE TRACE`, with `--config FILE`, `--harts N`, `--counts`, `--json`, `--lines FILE`, `--names`, `--records`,
-- `--story`, `--all` and `--why`.
abbrev pub check_command : App
check_command = subcommand (codes "check") (image_rule ∷ trace_rule ∷ config_rule ∷ harts_rule ∷ counts_rule ∷ json_rule
    ∷ lines_rule ∷ names_rule ∷ records_rule ∷ story_rule ∷ all_rule ∷ why_rule ∷ [])

-- `plain IMAGE ORDER`, with `--config FILE`, `--harts N`, `--lines FILE`, `--names`, `--records`, `--story`,
-- `--story-svg FILE`, `--theme THEME` and `--all`; or without the order, and with `--rounds K`, `--steps N` and `--seed S`.
abbrev pub plain_command : App
plain_command = subcommand (codes "plain") (image_rule ∷ order_or_rounds_rule ∷ config_rule ∷ harts_rule ∷ lines_rule
    ∷ names_rule ∷ records_rule ∷ rounds_rule ∷ steps_rule ∷ seed_rule ∷ story_rule ∷ story_svg_rule ∷ theme_rule ∷ all_rule
    ∷ [])

-- `schedule IMAGE ORDER`, with `--config FILE` and `--harts N`.
abbrev pub schedule_command : App
schedule_command = subcommand (codes "schedule") (image_rule ∷ order_rule ∷ config_rule ∷ harts_rule ∷ [])

-- `script IMAGE TRACE`, with `--config FILE` and `--harts N`.
abbrev pub script_command : App
script_command = subcommand (codes "script") (image_rule ∷ trace_rule ∷ config_rule ∷ harts_rule ∷ [])

-- `list IMAGE`, with `--config FILE`, `--lines FILE` and `--names`.
abbrev pub list_command : App
list_command = subcommand (codes "list") (image_rule ∷ config_rule ∷ lines_rule ∷ names_rule ∷ [])

-- `chart IMAGE TRACE`, with `--config FILE`, `--harts N`, `--from PLACE`, `--to PLACE`, `--hart N`, `--names`,
-- `--width N`, `--columns OF`, `--registers`, `--counters`, `--svg FILE`, `--kanata FILE`, `--title TEXT`,
-- `--light` and `--dark`.
abbrev pub chart_command : App
chart_command = subcommand (codes "chart") (image_rule ∷ trace_rule ∷ config_rule ∷ harts_rule ∷ from_rule ∷ to_rule
    ∷ hart_rule ∷ names_rule ∷ width_rule ∷ columns_rule ∷ registers_rule ∷ counters_rule ∷ svg_rule ∷ kanata_rule
    ∷ title_rule ∷ light_rule ∷ dark_rule ∷ [])

-- `explain IMAGE`, with `--config FILE`, `--harts N`, `--script FILE`, `--order FILE` and `--trace FILE`, each of which
-- is read.
abbrev pub explain_command : App
explain_command = subcommand (codes "explain") (image_rule ∷ config_rule ∷ harts_rule ∷ explained_script_rule
    ∷ explained_order_rule ∷ written_trace_rule ∷ [])

-- `outcomes IMAGE`, with `--config FILE`, `--harts N`, `--states N`, `--watch LIST`, `--exists CONDITION`,
-- `--forall CONDITION`, `--never CONDITION`, `--never-stuck`, `--why CONDITION`, `--svg FILE`, `--first`, `--outcome N`,
-- `--stuck`, `--witness FILE`, `--script FILE`, `--story FILE`, `--story-svg FILE`, `--theme THEME`, `--all`,
-- `--lines FILE`, `--without LIST` and `--how`.
abbrev pub outcomes_command : App
outcomes_command = subcommand (codes "outcomes") (image_rule ∷ config_rule ∷ harts_rule ∷ states_rule ∷ watch_rule
    ∷ exists_rule ∷ forall_rule ∷ never_rule ∷ never_stuck_rule ∷ why_none_rule ∷ svg_rule ∷ first_rule ∷ outcome_rule
    ∷ stuck_rule ∷ witness_rule ∷ written_script_rule ∷ written_story_rule ∷ story_svg_rule ∷ theme_rule ∷ all_rule
    ∷ lines_rule ∷ without_rule ∷ how_rule ∷ [])

-- `litmus TEST..`, with `--config FILE`, `--states N`, `--image FILE`, `--why`, `--svg FILE`, `--outcome N`,
-- `--witness FILE`, `--script FILE`, `--story FILE`, `--story-svg FILE`, `--theme THEME`, `--all`, `--run N`, `--summary`
-- and `--expect FILE`.
abbrev pub litmus_command : App
litmus_command = subcommand (codes "litmus") (test_rule ∷ config_rule ∷ states_rule ∷ written_image_rule
    ∷ why_rule ∷ svg_rule ∷ outcome_rule ∷ witness_rule ∷ written_script_rule ∷ written_story_rule ∷ story_svg_rule
    ∷ theme_rule ∷ all_rule ∷ run_rule ∷ summary_rule ∷ expect_rule ∷ [])

-- `migrate TRACE OUT`, with `--config FILE`.
abbrev pub migrate_command : App
migrate_command = subcommand (codes "migrate") (trace_rule ∷ written_out_rule ∷ config_rule ∷ [])

-- The whole command line: one of the twelve subcommands must be there. `clap` adds `--help`, `help` and
-- `--version`.
abbrev pub top : App
top = let app =
    new_app (codes "smtsim") in record app { top = record app.top { subcommand_required = true; has_version = true } }

abbrev pub with_command : App → App → App
with_command app sub = with_subcommand app sub.top

-- The commands that print a report, the others that have an image, and those that have none.
abbrev pub report_commands : List App
report_commands = step_command ∷ run_command ∷ check_command ∷ plain_command ∷ []

abbrev pub image_commands : List App
image_commands = schedule_command ∷ script_command ∷ list_command ∷ chart_command ∷ explain_command
    ∷ outcomes_command ∷ []

abbrev pub other_commands : List App
other_commands = litmus_command ∷ migrate_command ∷ []

abbrev pub smtsim : App
smtsim = fold with_command top (report_commands ++ (image_commands ++ other_commands))
