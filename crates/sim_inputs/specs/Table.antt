-- The code's table of subcommands: what each row describes.
use Rattle.std.specs.{List.fold}
use Rattle.clap.specs.Words.{App, Rule, Text, new_app, with_rule, with_subcommand}
use Rattle.sim_inputs.specs.{declared.arguments.Argument.Argument, declared.arguments.Kind.Kind}
use Rattle.sim_inputs.specs.{declared.description.Subcommand.Subcommand}
use Rattle.sim_inputs.specs.declared.arguments.Kind.TheVariants as kind
use Rattle.sim_inputs.specs.Rules.{file_rule, files_rule, optional_file_rule, file_option_rule, flag_rule}
use Rattle.sim_inputs.specs.Rules.{hints_rule, number_option_rule, text_option_rule}

-- The argument of a row.
abbrev pub rule_by : Kind → Text → Rule
rule_by kind.File name = file_rule name
rule_by kind.Files name = files_rule name
rule_by kind.OptionalFile name = optional_file_rule name
rule_by kind.Option name = file_option_rule name
rule_by kind.Folder name = file_option_rule name
rule_by kind.Flag name = flag_rule name
rule_by kind.Number name = number_option_rule name
rule_by kind.Place name = text_option_rule name
rule_by kind.List name = text_option_rule name
rule_by kind.Condition name = text_option_rule name
rule_by kind.When name = text_option_rule name
rule_by kind.Theme name = text_option_rule name
rule_by kind.Columns name = text_option_rule name
rule_by kind.Text name = text_option_rule name

abbrev pub rule_in : Argument → Rule
rule_in row = rule_by row.kind row.name.now

-- The subcommand of a row: with its own arguments, and with the option of all subcommands behind them.
abbrev pub with_argument : App → Argument → App
with_argument app row = with_rule app (rule_in row)

abbrev pub own_arguments_in : Subcommand → App
own_arguments_in row = fold with_argument (new_app row.name.now) row.arguments.now

abbrev pub subcommand_in : Subcommand → App
subcommand_in row = with_rule (own_arguments_in row) hints_rule

-- The command line with the subcommand of a row.
abbrev pub with_row : App → Subcommand → App
with_row app row = with_subcommand app (subcommand_in row).top
