use Rattle.core_state.proofs.Steps.Complete.State.{drop_core}
use Rattle.core_state.proofs.state.State.drop_job.Goals as goal

pub invariant_of-self : goal.invariant_of-self
invariant_of-self c =
    drop_core c.self.inside c.self.invariant c.args.self.now c.self.view_is c.args.actor c.args.seq _ _
    c.requires.allowed
    c.drop_job.ensures.agrees c.drop_job.ensures.sizes c.append.ensures
