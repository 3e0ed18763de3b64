use Rattle.std.proofs.Common.{take}
use Rattle.std.specs.List.{fold}
use Rattle.clap.specs.Words.{new_app}
use Rattle.sim_inputs.specs.CommandLine.{IsCommand}
use Rattle.sim_inputs.specs.Table.{with_argument}
use Rattle.sim_inputs.proofs.description.own_arguments_of.Given as goal

-- the arguments so far are added
abbrev pub invariant-loop-argument : goal.invariant-loop-argument
invariant-loop-argument l =
    IsCommand (fold with_argument (new_app l.row.name.now) (take l.argument-index l.row.arguments.now)) l.command
