use Rattle.std.specs.Prelude.{◌≡◌, ◌<◌, length, None, slice_index_or}
use Rattle.std.proofs.Common.{◌∙◌, sym, ap, subst}
use Rattle.issue_queue.specs.Queue as entries
use Rattle.core_steps.specs.{Renaming.HasRenamed}
use Rattle.core_parts.specs.{declared.slot.Slot.Slot}
use Rattle.load_store.specs.Queues.{Changes}
use Rattle.core_steps.specs.Accesses.{with_access}
use Rattle.core_steps.proofs.Steps.Rename.Accesses.{room_at, place_at}
use Rattle.core_steps.proofs.Steps.Rename.Parts.{same_hart, parts_renamed}
use Rattle.core_steps.proofs.Steps.Rename.Queue.{same_entry}
use Rattle.core_steps.proofs.Steps.Rename.Ready.{ready_at, known_range}
use Rattle.rv_instr.specs.{declared.op.Op.TheVariants.Known, declared.instr.Instr.TheVariants.Lui}
use Rattle.core_steps.proofs.rename.rename_oldest.Goals as goal

pub source-requires-clause-below : goal.source-requires-clause-below
source-requires-clause-below c =
    c.rs1.ensures.below
    (ready_at c.args.parts.now c.args.hart c.args.phys c.from.result c.index-state.result.now c.deref.result.now _
    c.requires.step c.from.ensures c.index-state.ensures c.deref.ensures.0).in_range

pub source-requires-2-clause-below : goal.source-requires-2-clause-below
source-requires-2-clause-below c =
    c.rs2.ensures.below
    (ready_at c.args.parts.now c.args.hart c.args.phys c.from.result c.index-state.result.now c.deref.result.now _
    c.requires.step c.from.ensures c.index-state.ensures c.deref.ensures.0).in_range

pub insert-requires-clause-absent : goal.insert-requires-clause-absent
insert-requires-clause-absent c =
    (ready_at c.args.parts.now c.args.hart c.args.phys c.from.result c.index-state.result.now c.deref.result.now _
    c.requires.step c.from.ensures c.index-state.ensures c.deref.ensures.0).absent

pub take-requires : goal.take-requires
take-requires c = known_range c.args.phys c.requires.step.step.in_range

pub add_access-requires-clause-hart : goal.add_access-requires-clause-hart
add_access-requires-clause-hart c = place_at c.args.parts.now c.args.hart c.args.phys c.requires.step

pub add_access-requires-clause-load_room : goal.add_access-requires-clause-load_room
add_access-requires-clause-load_room c =
    (room_at c.args.parts.now c.args.hart c.args.phys c.from.result c.index-state.result.now c.deref.result.now _
    c.requires.step c.from.ensures c.index-state.ensures c.deref.ensures.0).load_room

pub add_access-requires-clause-store_room : goal.add_access-requires-clause-store_room
add_access-requires-clause-store_room c =
    (room_at c.args.parts.now c.args.hart c.args.phys c.from.result c.index-state.result.now c.deref.result.now _
    c.requires.step c.from.ensures c.index-state.ensures c.deref.ensures.0).store_room

pub add_access-requires-clause-load_above : goal.add_access-requires-clause-load_above
add_access-requires-clause-load_above c =
    (room_at c.args.parts.now c.args.hart c.args.phys c.from.result c.index-state.result.now c.deref.result.now _
    c.requires.step c.from.ensures c.index-state.ensures c.deref.ensures.0).load_above

pub add_access-requires-clause-store_above : goal.add_access-requires-clause-store_above
add_access-requires-clause-store_above c =
    (room_at c.args.parts.now c.args.hart c.args.phys c.from.result c.index-state.result.now c.deref.result.now _
    c.requires.step c.from.ensures c.index-state.ensures c.deref.ensures.0).store_above

pub enter_flight-requires-clause-younger : goal.enter_flight-requires-clause-younger
enter_flight-requires-clause-younger c =
    let again =
    subst (λ i. c.index_mut.result.now ≡ slice_index_or c.args.parts.now.harts.items i c.index_mut.result.now)
    (c.from-2.ensures ∙ sym c.from.ensures) c.index_mut.ensures.value in
    let inside = subst (λ i. i < length c.args.parts.now.harts.items) (sym c.from.ensures) c.requires.step.inside in
    let same = same_hart c.args.parts.now.harts.items c.from.result c.index-state.result.now c.index_mut.result.now
    inside c.index-state.ensures again in
    rw (sym same)
    (ready_at c.args.parts.now c.args.hart c.args.phys c.from.result c.index-state.result.now c.deref.result.now _
    c.requires.step c.from.ensures c.index-state.ensures c.deref.ensures.0).younger

pub enter_flight-requires-clause-not_kept : goal.enter_flight-requires-clause-not_kept
enter_flight-requires-clause-not_kept c =
    let again =
    subst (λ i. c.index_mut.result.now ≡ slice_index_or c.args.parts.now.harts.items i c.index_mut.result.now)
    (c.from-2.ensures ∙ sym c.from.ensures) c.index_mut.ensures.value in
    let inside = subst (λ i. i < length c.args.parts.now.harts.items) (sym c.from.ensures) c.requires.step.inside in
    let same = same_hart c.args.parts.now.harts.items c.from.result c.index-state.result.now c.index_mut.result.now
    inside c.index-state.ensures again in
    rw (sym same)
    (ready_at c.args.parts.now c.args.hart c.args.phys c.from.result c.index-state.result.now c.deref.result.now _
    c.requires.step c.from.ensures c.index-state.ensures c.deref.ensures.0).not_kept

pub enter_flight-requires-clause-in_range : goal.enter_flight-requires-clause-in_range
enter_flight-requires-clause-in_range c =
    (ready_at c.args.parts.now c.args.hart c.args.phys c.from.result c.index-state.result.now c.deref.result.now _
    c.requires.step c.from.ensures c.index-state.ensures c.deref.ensures.0).in_range

pub enter_flight-requires-clause-writes : goal.enter_flight-requires-clause-writes
enter_flight-requires-clause-writes c =
    (ready_at c.args.parts.now c.args.hart c.args.phys c.from.result c.index-state.result.now c.deref.result.now _
    c.requires.step c.from.ensures c.index-state.ensures c.deref.ensures.0).writes

pub returns-clause-agrees : goal.returns-clause-agrees
returns-clause-agrees c = λ p q agrees renaming.
    let f = c.requires.step in
    let at =
    subst (λ i. c.index-state.result.now ≡ slice_index_or c.args.parts.now.harts.items i c.index-state.result.now)
    c.from.ensures c.index-state.ensures in
    let again =
    subst (λ i. c.index_mut.result.now ≡ slice_index_or c.args.parts.now.harts.items i c.index_mut.result.now)
    c.from-2.ensures c.index_mut.ensures.value in
    let same = same_hart c.args.parts.now.harts.items c.args.hart c.index-state.result.now c.index_mut.result.now
    f.inside at again in
    let d : Slot = record { seq = 0; pc = 0; word = None; op = Known (Lui 0 0); predicted = 0 } in
    let all = parts_renamed p q c.args.parts.now c.args.parts.now.queue.size c.args.hart c.args.phys d
    c.index-state.result.now c.enter_flight.new.state c.insert.new.self c.take.new.free c.take.new.values
    c.add_access.new.accesses renaming agrees f.inside at (record {
      own =
          subst
          (λ x. HasRenamed (slice_index_or c.index-state.result.now.rename_latch.items 0 d) c.args.phys x
          c.enter_flight.new.state) (sym same)
          (subst (λ xs. HasRenamed (slice_index_or xs 0 d) c.args.phys c.index_mut.result.now c.enter_flight.new.state)
          c.deref.ensures.0 c.enter_flight.ensures);
      place = c.next_place.result;
      queued = c.insert.ensures
          ∙ ap (λ e. record c.args.parts.now.queue { entries = entries.inserted_entry e c.args.parts.now.queue.entries })
          (same_entry c.args.hart c.next_place.result c.deref.result.now c.index-state.result.now.rename_latch.items d
          c.args.parts.now.values c.index-state.result.now.maps
          c.source.result c.source-2.result c.rs1.result c.rs2.result c.deref.ensures.0 c.rs1.ensures.value
          c.rs2.ensures.value c.source.ensures c.source-2.ensures);
      taken_out = c.take.ensures.free;
      lost = c.take.ensures.values;
      added =
          subst
          (λ xs. Changes (with_access (slice_index_or xs 0 d).op (slice_index_or xs 0 d).seq) c.args.hart
          c.args.parts.now.accesses c.add_access.new.accesses) c.deref.ensures.0 c.add_access.ensures;
    }) in
    record {
      harts = rw c.from-2.ensures all.0;
      checkpoints = rw c.from-2.ensures all.8;
      queue = all.1;
      free = all.2;
      registers = all.3;
      values = all.4;
      actors = agrees.actors;
      jobs = all.5;
      accesses = rw c.from-2.ensures all.6;
      memory = all.7;
    }
