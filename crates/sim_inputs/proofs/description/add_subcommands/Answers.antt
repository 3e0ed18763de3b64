use Rattle.std.proofs.Common.{arith, ap, refl, ◌∙◌}
use Rattle.std.proofs.lemmas.List.{take_all}
use Rattle.std.specs.List.{fold}
use Rattle.sim_inputs.specs.Table.{with_row}
use Rattle.sim_inputs.proofs.Described.{one_below, subcommands_step}
use Rattle.sim_inputs.proofs.description.add_subcommands.Goals as goal

pub loop-row-preserved : goal.loop-row-preserved
loop-row-preserved c app is =
    subcommands_step app _ _ c.args.rows.now c.loop-row.row-index _ c.loop-row-test.true (c.loop-row.invariant app is)
    (one_below _ _ _ _ _ refl c.in_ok-subcommand.ensures c.in_ok-command.ensures)

pub returns : goal.returns
returns c app is =
    c.loop-row.invariant app is ∙ ap (fold with_row app)
    (take_all c.loop-row.row-index c.args.rows.now (let done = c.loop-row-test.false in omega arith))
