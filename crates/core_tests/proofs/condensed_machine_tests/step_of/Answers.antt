use Rattle.condensed_machine.specs.Learning.{still_knows}
use Rattle.core_tests.proofs.condensed_machine_tests.step_of.Goals as goal

pub returns-in-Ok-clause-knew : goal.returns-in-Ok-clause-knew
returns-in-Ok-clause-knew c =
    λ s knows. still_knows c.args.machine.now c.step.new.self s c.step.ensures.grows knows

pub returns-in-Err-clause-knew : goal.returns-in-Err-clause-knew
returns-in-Err-clause-knew c =
    λ s knows. still_knows c.args.machine.now c.step.new.self s c.step.ensures.grows knows
