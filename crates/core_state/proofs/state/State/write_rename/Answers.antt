-- The parts make the step, and the state is a core's after it.
use Rattle.core_state.proofs.Steps.Rename.State.{rename_starts, rename_core}
use Rattle.core_state.proofs.state.State.write_rename.Goals as goal

pub rename_oldest-requires : goal.rename_oldest-requires
rename_oldest-requires c = record {
  step = rename_starts c.self.inside c.self.invariant c.args.self.now c.self.view_is c.args.actor c.args.hart c.args.seq
      c.args.phys c.requires.allowed c.requires.of_hart;
}

pub invariant_of-self : goal.invariant_of-self
invariant_of-self c =
    rename_core c.self.inside c.self.invariant c.args.self.now c.self.view_is c.args.actor c.args.hart c.args.seq
    c.args.phys c.requires.allowed c.requires.of_hart _ _ c.rename_oldest.ensures.agrees c.rename_oldest.ensures.sizes
    c.append.ensures
