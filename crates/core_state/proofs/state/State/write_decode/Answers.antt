-- The parts make the step, and the state is a core's after it.
use Rattle.core_state.proofs.Steps.Decode.State.{decode_starts, decode_core}
use Rattle.core_state.proofs.state.State.write_decode.Goals as goal

pub decode_oldest-requires : goal.decode_oldest-requires
decode_oldest-requires c = record {
  step = decode_starts c.self.inside c.self.invariant c.args.self.now c.self.view_is c.args.actor c.args.hart c.args.seq
      c.requires.allowed c.requires.of_hart;
}

pub invariant_of-self : goal.invariant_of-self
invariant_of-self c =
    decode_core c.self.inside c.self.invariant c.args.self.now c.self.view_is c.args.actor c.args.hart c.args.seq
    c.requires.allowed c.requires.of_hart _ _ c.decode_oldest.ensures.agrees c.decode_oldest.ensures.sizes c.append.ensures
