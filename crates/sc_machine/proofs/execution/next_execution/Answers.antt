use Rattle.std.proofs.Common.{◌≡◌, ◌<◌, None, subst, sym}
use Rattle.smt_model.specs.{Exec.Computed, Faults.fault}
use Rattle.shared_memory.specs.Contents.{byte_of}
use Rattle.sc_machine.proofs.Accesses.{unfaulted}
use Rattle.sc_machine.proofs.execution.next_execution.Goals as goal

pub compute-computed-requires : goal.compute-computed-requires
compute-computed-requires c = record {
  in_range = c.fetch-word.ensures.in_range c.args.memory.now.image (byte_of c.args.memory.now) c.requires.code;
}

pub first_source-first-requires : goal.first_source-first-requires
first_source-first-requires c =
    c.fetch-word.ensures.in_range c.args.memory.now.image (byte_of c.args.memory.now) c.requires.code

pub second_source-second-requires : goal.second_source-second-requires
second_source-second-requires c =
    c.fetch-word.ensures.in_range c.args.memory.now.image (byte_of c.args.memory.now) c.requires.code

pub returns-clause-allowed : goal.returns-clause-allowed
returns-clause-allowed c = record {
  destination = subst (λ rd. rd < 32) c.destination-destination.ensures.value
      (c.destination-destination.ensures.below
      (c.fetch-word.ensures.in_range c.args.memory.now.image (byte_of c.args.memory.now) c.requires.code));
  first = c.first_source-first.ensures.below;
  second = c.second_source-second.ensures.below;
  write = c.effect_here-effect.ensures.allowed;
  alone = c.effect_here-effect.ensures.alone;
  unfaulted = λ going. subst (λ (x : Computed). fault c.args.memory.now.image c.fetch-word.result.1 x.addr ≡ None)
      (sym c.computed.view_is)
      (unfaulted c.args.memory.now.image c.fetch-word.result.1 c.compute-computed.result _ _
      c.effect_here-effect.result c.effect_here-effect.ensures.value c.compute-computed.ensures.no_fault going);
  in_range = c.fetch-word.ensures.in_range c.args.memory.now.image (byte_of c.args.memory.now) c.requires.code;
}
