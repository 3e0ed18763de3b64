-- What the code must know before a rename.
use Rattle.std.specs.Prelude.{◌≡◌, ℕ, ◌<◌, ◌==◌, not, false, List}
use Rattle.std.specs.Prelude.{length, Option, Some, None, is_some, IfSome, slice_index_or}
use Rattle.std.specs.List.{AllByRecursion}
use Rattle.std.proofs.Common.{◌∙◌, refl, sym, ap, subst, arith}
use Rattle.std.proofs.{lemmas.Bool.Decides.nat_tests}
use Rattle.numbers.specs.Sizes.{most_registers}
use Rattle.rv_instr.specs.{Table.OpInRange, declared.op.Op.Op}
use Rattle.issue_queue.specs.{Queue.has_number}
use Rattle.issue_queue.specs.Queue as entries
use Rattle.rename_map.specs.Maps.{kept_under}
use Rattle.retire_squash.specs.{Active.Above}
use Rattle.smt_model.specs.{Kinds.destination}
use Rattle.smt_model.specs.{Picture.Picture}
use Rattle.smt_model.specs.Fates.{is}
use Rattle.core_parts.specs.Agree.{PartsAgree, From, HartAgrees}
use Rattle.core_steps.specs.Renaming.{IsRenaming}
use Rattle.core_parts.specs.{declared.slot.Slot.Slot, declared.hart.HartState.HartState, declared.parts.Parts.Parts}
use Rattle.core_parts.proofs.Agreement.Checkpoints.{checkpoints_here}
use Rattle.core_steps.proofs.Agreement.Checkpoints.{none_kept}
use Rattle.core_steps.proofs.Steps.Rename.Slot.{next_slot, slot_op, slot_in_range}
use Rattle.core_steps.proofs.Steps.Rename.Hart.{above_all}
use Rattle.core_steps.proofs.Steps.Rename.Queue.{not_queued}

pub record IsReady (x : Parts) (taken : Option ℕ) (state : HartState) (slot : Slot) : Type 0 where
  pub in_range : OpInRange slot.op
  pub absent : has_number slot.seq x.queue.entries ≡ false
  pub younger : Above slot.seq state.active
  pub writes : IfSome taken (λ y. 0 < destination slot.op)
  pub not_kept : kept_under slot.seq state.maps.kept ≡ None

writes_one : (op : Op) (taken : Option ℕ) → is_some taken ≡ not (destination op == 0)
    → IfSome taken (λ y. 0 < destination op)
writes_one op None fits = tt
writes_one op (Some x) fits = grind (arith, nat_tests)

ready_to_rename : (p q : Picture) (x : Parts) (size h : ℕ) (taken : Option ℕ) (state : HartState) (d : Slot)
    → IsRenaming p q size h taken
    → PartsAgree p x → h < length x.harts.items → state ≡ slice_index_or x.harts.items h state
    → IsReady x taken state (slice_index_or state.rename_latch.items 0 d)
ready_to_rename p q x size h taken state d renaming agrees inside at =
    let hart : HartAgrees p h state = subst (HartAgrees p h) (sym at) (agrees.harts h state inside) in
    let next = next_slot p h renaming.number (q.in_rename h) state.rename_latch.items d
    (hart.rename_latch ∙ renaming.step.in_rename) hart.rename_slots in
    let younger : Above renaming.number state.active =
    above_all renaming.number state.active
    (subst (AllByRecursion (λ s. s < renaming.number)) (sym hart.active) renaming.younger) in
    record {
      in_range = slot_in_range p h (slice_index_or state.rename_latch.items 0 d) next.is;
      absent = subst (λ s. has_number s x.queue.entries ≡ false) (sym next.number)
          (not_queued p renaming.number x.queue.entries renaming.step.absent agrees.queue.entries);
      younger = subst (λ s. Above s state.active) (sym next.number) younger;
      writes = writes_one (slice_index_or state.rename_latch.items 0 d).op taken
          (renaming.step.fits
          ∙ ap (λ o. not (destination o == 0))
          (slot_op p h renaming.number (slice_index_or state.rename_latch.items 0 d) next.number next.is));
      not_kept = subst (λ s. kept_under s state.maps.kept ≡ None) (sym next.number)
          (none_kept renaming.number state.active state.maps younger
          (checkpoints_here x.harts.items h state inside at agrees.checkpoints));
    }

-- The slot is ready too as the code reads it, from a list of slots at a place.
pub ready_at : (x : Parts) (h : ℕ) (taken : Option ℕ) (i : ℕ) (state : HartState) (slots : List Slot) (d : Slot)
    → From x h (λ p q. IsRenaming p q x.queue.size h taken) → i ≡ h → state ≡ slice_index_or x.harts.items i state
    → slots ≡ state.rename_latch.items
    → IsReady x taken state (slice_index_or slots 0 d)
ready_at x h taken i state slots d from same at read =
    let here : state ≡ slice_index_or x.harts.items h state =
    subst (λ j. state ≡ slice_index_or x.harts.items j state) same at in
    subst (λ xs. IsReady x taken state (slice_index_or xs 0 d)) (sym read)
    (ready_to_rename from.before from.after x x.queue.size h taken state d from.step from.agrees from.inside here)

pub known_range : (taken : Option ℕ) → ((x : ℕ) → taken ≡ Some x → x < most_registers)
    → IfSome taken (λ x. x < most_registers)
known_range None known = tt
known_range (Some x) known = known x refl
