use Rattle.core_state.proofs.Steps.Complete.State.{finish_from, finish_core}
use Rattle.core_state.proofs.state.State.finish.Goals as goal

pub finish-requires : goal.finish-requires
finish-requires c = record {
  step = finish_from c.self.inside c.self.invariant c.args.self.now c.self.view_is c.args.job.now.hart c.args.actor
      c.args.active.now c.args.outcome
      c.requires.active c.requires.allowed;
}

pub invariant_of-self : goal.invariant_of-self
invariant_of-self c =
    finish_core c.self.inside c.self.invariant c.args.self.now c.self.view_is c.args.job.now.hart c.args.actor c.args.active.now
    c.args.outcome
    c.requires.active c.requires.allowed _ _ c.finish.ensures.agrees c.finish.ensures.sizes
    c.append.ensures
