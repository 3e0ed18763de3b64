-- A hart's queues hold the loads and stores of its active list, so they are as long as these are many.
use Rattle.std.specs.Prelude.{◌≡◌, ℕ, ◌<◌, ◌==◌, Bool, true, false, List, count_by, filter, length, slice_index_or, Some}
use Rattle.std.proofs.Common.{◌∙◌, refl, sym, ap, subst, arith}
use Rattle.std.proofs.lemmas.Bool.Decides.{nat_tests}
use Rattle.numbers.specs.Sizes.{most_in_flight}
use Rattle.std.proofs.{lemmas.List.length-map, lemmas.List.Sums.length-filter}
use Rattle.rv_instr.specs.declared.op.Op.{Op}
use Rattle.retire_squash.specs.declared.active.Active.{Active}
use Rattle.smt_model.specs.{Basics.first, Picture.Picture}
use Rattle.load_store.specs.Queues.{Queues, queues_of}
use Rattle.core_parts.specs.{Accesses.is_load, Accesses.is_store, Accesses.load_of, Accesses.store_of, Agree.PartsAgree}
use Rattle.core_parts.specs.{declared.hart.HartState.HartState, declared.parts.Parts.Parts, declared.slot.Slot.Slot}
use Rattle.core_parts.proofs.Agreement.Queues.{queues_here}
use Rattle.core_steps.specs.Renaming.{AreAccesses, CanEnter, has_no_room, has_full_memory_queue}

pub are_accesses : (p : Picture) (x : Parts) (h : ℕ) (state : HartState) → PartsAgree p x → h < length x.harts.items
    → state ≡ slice_index_or x.harts.items h state
    → AreAccesses x.accesses h state.active
are_accesses p x h state agrees inside at =
    record { touched = p.touched; queues = queues_here x.harts.items x.accesses h state agrees.accesses inside at }

module _ (all : List Queues) (h : ℕ) (active : List Active) (are : AreAccesses all h active) where
  pub loads_counted : length (queues_of all h).loads ≡ count_by is_load active
  loads_counted =
      ap (λ (q : Queues). length q.loads) are.queues
      ∙ (length-map (filter is_load active) (load_of are.touched) ∙ length-filter is_load active)

  pub stores_counted : length (queues_of all h).stores ≡ count_by is_store active
  stores_counted =
      ap (λ (q : Queues). length q.stores) are.queues
      ∙ (length-map (filter is_store active) store_of ∙ length-filter is_store active)

  pub fullness_counted : (op : Op)
      → has_no_room op (length (queues_of all h).loads) (length (queues_of all h).stores)
      ≡ has_full_memory_queue op active
  fullness_counted op = rw (loads_counted, stores_counted) refl

module _ (all : List Queues) (h : ℕ) (x : HartState) (are : AreAccesses all h x.active) (found : Slot)
    (oldest : first x.rename_latch.items ≡ Some found) where
  -- There is room for the oldest decoded instruction.
  pub may_enter : length x.active < most_in_flight
      → has_no_room found.op (length (queues_of all h).loads) (length (queues_of all h).stores) ≡ false
      → CanEnter x found
  may_enter room free =
      record {
        oldest = oldest;
        room = room;
        memory_room = sym (fullness_counted all h x.active are found.op) ∙ free;
      }

  -- There is none for it, so nothing can enter.
  pub may_not_enter : has_no_room found.op (length (queues_of all h).loads) (length (queues_of all h).stores) ≡ true
      → (slot : Slot) → CanEnter x slot → ⊥
  may_not_enter full slot can =
      let both : Some found ≡ Some slot = sym oldest ∙ can.oldest in
      let same : found ≡ slot = cc in
      let room : has_full_memory_queue found.op x.active ≡ false =
      subst (λ (s : Slot). has_full_memory_queue s.op x.active ≡ false) (sym same) can.memory_room in
      let wrong : true ≡ false = sym full ∙ (fullness_counted all h x.active are found.op ∙ room) in
      absurd cc

pub no_place : (n : ℕ) (full : Bool) → full ≡ (n == most_in_flight) → full ≡ true → n < most_in_flight → ⊥
no_place n full is so room = grind (arith, nat_tests)
