-- What a rename makes of the parts agrees with the picture after it.
use Rattle.std.specs.Prelude.{◌≡◌, ℕ, ◌<◌, ◌&&◌, not, Bool, List}
use Rattle.std.specs.Prelude.{length, Option, slice_index_or, slice_set}
use Rattle.std.proofs.Common.{◌∙◌, refl, sym, ap, subst}
use Rattle.std.proofs.lemmas.List.{get_or_default}
use Rattle.numbers.specs.Sizes.{most_registers}
use Rattle.rv_instr.specs.{Registers.op_rs1, Registers.op_rs2}
use Rattle.free_list.specs.Flags.{holds}
use Rattle.issue_queue.specs.{Queue.Queue}
use Rattle.issue_queue.specs.Queue as entries
use Rattle.smt_model.specs.{Basics.first, Basics.or_zero}
use Rattle.smt_model.specs.{Picture.Picture}
use Rattle.smt_model.specs.Fates.{is}
use Rattle.smt_model.specs.Steps.{is_register_taken}
use Rattle.smt_model.specs.Steps as numbers
use Rattle.load_store.specs.Queues.{Queues, Changes}
use Rattle.core_parts.specs.Accesses.{AccessesAgree, MemoryAgrees, accesses_of}
use Rattle.core_steps.specs.Accesses.{with_access}
use Rattle.core_parts.specs.Checkpoints.{CheckpointsAgree}
use Rattle.core_parts.specs.Agree.{PartsAgree, HartAgrees, EachAgrees}
use Rattle.core_parts.specs.Agree.{IsEntry, QueueAgrees, FreeAgrees, ValuesAgree, JobsAgree}
use Rattle.core_steps.specs.Renaming.{IsRenaming, HasRenamed, active_of, source_in, emptied}
use Rattle.core_parts.specs.{declared.slot.Slot.Slot, declared.hart.HartState.HartState, declared.parts.Parts.Parts}
use Rattle.core_parts.proofs.Agreement.Checkpoints.{checkpoints_here, checkpoints_set}
use Rattle.core_steps.proofs.{Agreement.Accesses.accesses_pushed}
use Rattle.core_parts.proofs.{Agreement.Queues.accesses_set}
use Rattle.core_parts.proofs.{Agreement.Queues.memory_kept, Agreement.Queues.accesses_kept}
use Rattle.core_parts.proofs.Agreement.Shared.{jobs_kept}
use Rattle.core_steps.proofs.Steps.Rename.Slot.{next_slot}
use Rattle.core_steps.proofs.Steps.Rename.Hart.{harts_renamed, checkpoints_renamed}
use Rattle.core_steps.proofs.Steps.Rename.Queue.{queue_numbers, entry_of, entry_in, queue_entries, first_found, second_found}
use Rattle.core_steps.proofs.Steps.Rename.Registers.{free_renamed, emptied_length, values_renamed}

-- One hart read twice is the same.
pub same_hart : (xs : List HartState) (i : ℕ) (x y : HartState) → i < length xs → x ≡ slice_index_or xs i x
    → y ≡ slice_index_or xs i y → x ≡ y
same_hart xs i x y inside one two = one ∙ (get_or_default xs i x y inside ∙ sym two)

-- What the code has made of the parts: the hart's own, the queue, the free registers and their numbers.
pub record HasMade (x : Parts) (h : ℕ) (taken : Option ℕ) (slot : Slot) (state new : HartState) (queue : Queue)
    (free : List Bool) (values : List (Option ℕ)) (accesses : List Queues) : Type 0 where
  pub own : HasRenamed slot taken state new
  pub place : ℕ
  pub queued : queue ≡ record x.queue {
    entries = entries.inserted_entry
        (entry_of h place slot (source_in x.values state.maps (or_zero (op_rs1 slot.op)))
        (source_in x.values state.maps (or_zero (op_rs2 slot.op))))
        x.queue.entries;
  }
  pub taken_out : (y : ℕ) → holds free y ≡ (holds x.free y && not (is_register_taken taken y))
  pub lost : values ≡ emptied taken x.values
  pub added : Changes (with_access slot.op slot.seq) h x.accesses accesses

pub parts_renamed : (p q : Picture) (x : Parts) (size h : ℕ) (taken : Option ℕ) (d : Slot) (state new : HartState)
    (queue : Queue) (free : List Bool)
    (values : List (Option ℕ)) (accesses : List Queues) → IsRenaming p q size h taken → PartsAgree p x
    → h < length x.harts.items → state ≡ slice_index_or x.harts.items h state
    → HasMade x h taken (slice_index_or state.rename_latch.items 0 d) state new queue free values accesses
    → EachAgrees q (slice_set x.harts.items h new) × QueueAgrees q queue × FreeAgrees q free
    × (length values ≡ most_registers)
    × ValuesAgree q values × JobsAgree q x.jobs × AccessesAgree q.touched (slice_set x.harts.items h new) accesses
    × MemoryAgrees q x.memory × CheckpointsAgree (slice_set x.harts.items h new)
parts_renamed p q x size h taken d state new queue free values accesses renaming agrees inside at made =
    let n = renaming.number in
    let step = renaming.step in
    let hart : HartAgrees p h state = subst (HartAgrees p h) (sym at) (agrees.harts h state inside) in
    let slot = slice_index_or state.rename_latch.items 0 d in
    let next = next_slot p h n (q.in_rename h) state.rename_latch.items d
    (hart.rename_latch ∙ step.in_rename) hart.rename_slots in
    let first = first_found p q x size h taken state slot renaming agrees hart next.number next.is in
    let second = second_found p q x size h taken state slot renaming agrees hart next.number next.is in
    let entry = entry_of h made.place slot (source_in x.values state.maps (or_zero (op_rs1 slot.op)))
    (source_in x.values state.maps (or_zero (op_rs2 slot.op))) in
    let is_entry : IsEntry q entry =
    entry_in p q h made.place n taken slot (source_in x.values state.maps (or_zero (op_rs1 slot.op)))
    (source_in x.values state.maps (or_zero (op_rs2 slot.op)))
    step next.number next.is first second in
    let queued : QueueAgrees q (record x.queue { entries = entries.inserted_entry entry x.queue.entries }) = record {
      numbers = queue_numbers p q h n taken entry x.queue.entries step next.number agrees.queue.numbers;
      entries = queue_entries p q h n taken entry x.queue.entries step is_entry agrees.queue.entries;
    } in (
      harts_renamed p q h n taken slot x.harts.items state new step inside at next made.own agrees.harts,
      subst (QueueAgrees q) (sym made.queued) queued,
      free_renamed p q h n taken x.free free step made.taken_out agrees.free,
      ap length made.lost ∙ (emptied_length taken x.values ∙ agrees.registers),
      subst (ValuesAgree q) (sym made.lost) (values_renamed p q h n taken x.values step agrees.values),
      jobs_kept p q x.jobs step.stays.shared.kept step.stays.shared.job step.stays.shared.operands agrees.jobs,
      accesses_kept p.touched q.touched (slice_set x.harts.items h new) accesses step.stays.shared.memory.touched
          (accesses_set p.touched (with_access slot.op slot.seq) x.harts.items h state new x.accesses accesses inside at
          made.added
          (ap (accesses_of p.touched) made.own.active
          ∙ accesses_pushed p.touched state.active (active_of slot taken) (record { load = refl; store = refl }))
          agrees.accesses),
      memory_kept p q x.memory step.stays.shared.memory agrees.memory,
      checkpoints_set x.harts.items h new inside
          (checkpoints_renamed p q size h taken slot state new renaming hart next.number made.own
          (checkpoints_here x.harts.items h state inside at agrees.checkpoints))
          agrees.checkpoints,
    )
