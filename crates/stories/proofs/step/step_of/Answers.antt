use Rattle.stories.proofs.Stepping.{step_is}
use Rattle.stories.proofs.step.step_of.Goals as goal

pub returns-clause-value : goal.returns-clause-value
returns-clause-value c = λ setup s agrees.
    step_is setup s c.args.machine.now _ c.args.hart c.next_step-next.result _ agrees c.memory.ensures
    (c.next_step-next.ensures.is setup s agrees) c.deed_by.ensures
