use Rattle.std.proofs.Common.{◌∙◌, ap, None, slice_set}
use Rattle.core_steps.proofs.Steps.Complete.Parts.{parts_dropped}
use Rattle.core_steps.proofs.complete.drop_job.Goals as goal

pub returns-clause-agrees : goal.returns-clause-agrees
returns-clause-agrees c = λ p q n agrees step.
    parts_dropped p q n c.args.actor c.args.parts.now _ agrees step
    (c.set_job.ensures ∙ ap (λ k. slice_set c.args.parts.now.jobs k None) c.from-actor.ensures)
