-- A command as it is described to `clap`, an argument or a subcommand at a time.
use Rattle.std.proofs.Common.{◌≡◌, ◌||◌, ℕ, ◌+◌, ◌<◌, List, length, get_or, take, sym, subst, ap, ap₂, ◌∙◌}
use Rattle.std.proofs.lemmas.List.Sums.{fold_more}
use Rattle.std.specs.List.{fold}
use Rattle.clap.specs.Words.{AddsArg, AddsSubcommand, App, Rule, app_of, with_rule, with_subcommand}
use Rattle.clap.specs.{declared.builder.arg.Arg.Arg, declared.builder.command.Command.Command}
use Rattle.sim_inputs.specs.CommandLine.{IsArgument, IsCommand}
use Rattle.sim_inputs.specs.Table.{rule_in, with_argument, with_row}
use Rattle.sim_inputs.specs.{declared.arguments.Argument.Argument, declared.description.Subcommand.Subcommand}

-- with one more argument
pub one_more : (app : App) (rule : Rule) (old new : Command) (argument : Arg) → IsCommand app old
    → IsArgument rule argument → AddsArg old argument new →
    IsCommand (with_rule app rule) new
one_more app rule old new argument is one adds = record {
  app = adds.shape one.local ∙ ap₂ with_rule is.app one.rule;
  local = adds.globals ∙ ap₂ ◌||◌ is.local one.local;
}

-- with one more subcommand
pub one_below : (app sub : App) (old made new : Command) → app_of old ≡ app → IsCommand sub made
    → AddsSubcommand old made new → app_of new ≡ with_subcommand app sub.top
one_below app sub old made new same is adds =
    adds.shape is.local ∙ ap₂ with_subcommand same (ap (λ (a : App). a.top) is.app)

-- a turn of the loop over the rows of a subcommand's arguments
pub arguments_step : (app : App) (old new : Command) (argument : Arg) (rows : List Argument) (i : ℕ) (d : Argument)
    → i < length rows → IsCommand (fold with_argument app (take i rows)) old → IsArgument (rule_in (get_or rows i d)) argument
    → AddsArg old argument new →
    IsCommand (fold with_argument app (take (i + 1) rows)) new
arguments_step app old new argument rows i d inside is one adds =
    subst (λ a. IsCommand a new) (sym (fold_more with_argument app rows i d inside))
    (one_more (fold with_argument app (take i rows)) (rule_in (get_or rows i d)) old new argument is one adds)

-- a turn of the loop over the rows of the subcommands
pub subcommands_step : (old mid new : App) (rows : List Subcommand) (i : ℕ) (d : Subcommand) → i < length rows
    → mid ≡ fold with_row old (take i rows) → new ≡ with_row mid (get_or rows i d) →
    new ≡ fold with_row old (take (i + 1) rows)
subcommands_step old mid new rows i d inside first next =
    next ∙ ap (λ app. with_row app (get_or rows i d)) first ∙ sym (fold_more with_row old rows i d inside)
