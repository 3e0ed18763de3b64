use Rattle.std.proofs.Common.{arith}
use Rattle.std.proofs.lemmas.List.{take_all}
use Rattle.clap.specs.Words.{new_app}
use Rattle.sim_inputs.proofs.Described.{arguments_step}
use Rattle.sim_inputs.proofs.description.own_arguments_of.Goals as goal

pub loop-argument-preserved : goal.loop-argument-preserved
loop-argument-preserved c =
    arguments_step (new_app c.args.row.now.name.now) _ _ _ c.args.row.now.arguments.now c.loop-argument.argument-index _
    c.loop-argument-test.true c.loop-argument.invariant c.argument_of.ensures c.in_ok-command.ensures

pub returns : goal.returns
returns c =
    rw (← take_all c.loop-argument.argument-index c.args.row.now.arguments.now (let done = c.loop-argument-test.false in omega arith))
    c.loop-argument.invariant
