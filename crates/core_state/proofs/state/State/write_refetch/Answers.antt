-- The parts make the step, and the state is a core's after it.
use Rattle.core_state.proofs.Steps.Refetch.State.{refetch_from, core_refetched}
use Rattle.core_state.proofs.state.State.write_refetch.Goals as goal

pub refetch_oldest-requires : goal.refetch_oldest-requires
refetch_oldest-requires c = record {
  step = refetch_from c.self.inside c.self.invariant c.args.self.now c.self.view_is c.args.actor c.args.hart
      c.args.active.now c.requires.allowed c.requires.active;
}

pub invariant_of-self : goal.invariant_of-self
invariant_of-self c =
    core_refetched c.self.inside c.self.invariant c.args.self.now c.self.view_is c.args.actor c.args.hart
    c.args.active.now c.requires.allowed c.requires.active c.refetch_oldest.new.parts c.append.new.history
    c.refetch_oldest.ensures.agrees c.refetch_oldest.ensures.sizes c.append.ensures
