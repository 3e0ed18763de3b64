-- The parts make the step, and the state is a core's after it.
use Rattle.std.specs.Prelude.{IfSome}
use Rattle.std.proofs.Common.{sym, subst}
use Rattle.elf_image.specs.Image.{ProgramImage}
use Rattle.shared_memory.specs.Contents.{CanWrite}
use Rattle.core_state.proofs.Steps.Retire.State.{finds_next, said_outcome, found_from, write_in_core, core_after}
use Rattle.core_state.proofs.Steps.Retire.State.{few_looks, place_in}
use Rattle.core_state.proofs.state.State.write_retire.Goals as goal

pub retire_oldest-requires : goal.retire_oldest-requires
retire_oldest-requires c =
    let finds = finds_next c.self.inside c.self.invariant c.args.self.now c.self.view_is c.args.actor c.args.hart
    c.args.active.now c.args.effect c.requires.allowed c.requires.active in
    record {
      step = found_from c.self.inside c.args.actor c.args.hart c.args.active.now _ c.args.effect c.self.invariant finds;
      write = write_in_core c.self.inside c.args.hart c.args.active.now c.args.effect c.self.invariant finds.effect_is;
    }

-- What is written can be written in memory as it is now, too.
pub decode_write-requires : goal.decode_write-requires
decode_write-requires c =
    let finds = finds_next c.self.inside c.self.invariant c.args.self.now c.self.view_is c.args.actor c.args.hart
    c.args.active.now c.args.effect c.requires.allowed c.requires.active in
    subst (λ (image : ProgramImage). IfSome c.args.effect.write (CanWrite image))
    (sym c.retire_oldest.ensures.sizes.image)
    (write_in_core c.self.inside c.args.hart c.args.active.now c.args.effect c.self.invariant finds.effect_is)

pub looks_after-looks-requires : goal.looks_after-looks-requires
looks_after-looks-requires c =
    let finds = finds_next c.self.inside c.self.invariant c.args.self.now c.self.view_is c.args.actor c.args.hart
    c.args.active.now c.args.effect c.requires.allowed c.requires.active in
    record {
      hart = place_in c.self.inside c.args.hart c.self.invariant finds.inside;
      few = few_looks c.self.inside c.args.self.now c.self.view_is c.self.invariant c.requires.room;
    }

pub invariant_of-self : goal.invariant_of-self
invariant_of-self c =
    core_after c.self.inside c.retire_oldest.new.parts c.decode_write.new.code c.looks_after-looks.result
    c.push_reserved.new.self c.put_out.new.output c.append.new.history
    c.args.actor c.args.hart c.args.active.now
    (said_outcome c.self.inside c.self.invariant c.args.self.now c.self.view_is c.args.actor c.args.hart
    c.args.active.now c.args.effect c.requires.allowed c.requires.active)
    c.args.effect c.self.invariant
    (finds_next c.self.inside c.self.invariant c.args.self.now c.self.view_is c.args.actor c.args.hart
    c.args.active.now c.args.effect c.requires.allowed c.requires.active)
    c.retire_oldest.ensures.agrees c.retire_oldest.ensures.sizes c.decode_write.ensures c.looks_after-looks.ensures
    c.push_reserved.ensures.items
    c.push_reserved.ensures.capacity c.put_out.ensures.items
    c.put_out.ensures.capacity c.append.ensures
