use Rattle.std.proofs.Common.{◌≡◌, take}
use Rattle.std.specs.List.{fold}
use Rattle.clap.specs.Words.{App, app_of}
use Rattle.sim_inputs.specs.Table.{with_row}
use Rattle.sim_inputs.proofs.description.add_subcommands.Given as goal

-- the subcommands so far are added
abbrev pub invariant-loop-row : goal.invariant-loop-row
invariant-loop-row l = (app : App) → app_of l.initial.command ≡ app
    → app_of l.command ≡ fold with_row app (take l.row-index l.rows)
