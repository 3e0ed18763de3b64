-- A fetch: the parts after it agree with the picture after it.
use Rattle.std.specs.Prelude.{◌≡◌, ◌≢◌, ℕ, ◌+◌, [], ◌∷◌, ◌++◌, map}
use Rattle.std.specs.List.{AllByRecursion}
use Rattle.std.proofs.Common.{◌∙◌, subst, sym, ap}
use Rattle.rv_instr.specs.Decode.{op_of_word}
use Rattle.rename_map.specs.Maps.{lookup, committed_of}
use Rattle.core_parts.specs.{Agree.IsSlot, Agree.IsActive, Agree.HartAgrees}
use Rattle.core_steps.specs.{Fetch.IsFetchedInto, Fetch.fetched_of}
use Rattle.core_parts.specs.{declared.slot.Slot.Slot, declared.hart.HartState.HartState}
use Rattle.smt_model.specs.{Picture.Picture, Steps.IsFetch}
use Rattle.core_parts.proofs.{Agreement.Harts.slots_kept, Agreement.Harts.actives_kept, Agreement.Harts.hart_kept}
use Rattle.core_parts.proofs.{Agreement.Rest.KeepsRest}
use Rattle.core_steps.proofs.{Steps.Decode.Parts.slots_push, Steps.Decode.Parts.numbers_push}

pub keeps_rest : (p q : Picture) (h : ℕ) (slot : Slot) → IsFetch p q slot.seq (fetched_of h slot) → KeepsRest p q
keeps_rest p q h slot step = record { flights = step.flights; shared = step.stays.shared }

-- The hart that fetches.
pub own_fetch : (p q : Picture) (h : ℕ) (slot : Slot) (x y : HartState) → slot.op ≡ op_of_word slot.word
    → IsFetch p q slot.seq (fetched_of h slot) → IsFetchedInto slot x y → HartAgrees p h x → HartAgrees q h y
own_fetch p q h slot x y op step into was =
    let new : IsSlot q h slot = record { fetched = step.fetched; op = op } in
    record {
      decode_latch = ap (map (λ s. s.seq)) into.decode_latch ∙ (numbers_push x.decode_latch.items slot
          ∙ (ap (λ ns. ns ++ slot.seq ∷ []) was.decode_latch ∙ sym step.in_decode));
      decode_slots = subst (AllByRecursion (IsSlot q h)) (sym into.decode_latch)
          (slots_push q h x.decode_latch.items slot
          (slots_kept p q h x.decode_latch.items step.stays.shared.kept was.decode_slots) new);
      rename_latch =
          ap (λ l. map (λ s. s.seq) l.items) into.rename_latch ∙ (was.rename_latch ∙ sym step.stays.hart.in_rename);
      rename_slots = subst (AllByRecursion (IsSlot q h)) (sym (ap (λ l. l.items) into.rename_latch))
          (slots_kept p q h x.rename_latch.items step.stays.shared.kept was.rename_slots);
      active = ap (map (λ a. a.seq)) into.active ∙ (was.active ∙ sym step.stays.hart.flight);
      actives = subst (AllByRecursion (IsActive q h)) (sym into.active)
          (actives_kept p q h x.active step.stays.shared.kept (λ t flies of_hart. step.flights t flies) was.actives);
      icount = into.icount ∙ (ap (λ n. n + 1) was.icount ∙ sym step.icount);
      speculative = λ r above under. ap (λ m. lookup m r) into.maps
          ∙ (was.speculative r above under ∙ sym (step.stays.hart.mapped r above under));
      committed = λ r above under. ap (λ m. committed_of m r) into.maps
          ∙ (was.committed r above under ∙ sym (step.stays.hart.committed r above under));
      fetch_pc = into.fetch_pc ∙ sym step.fetch_pc;
      status = into.status ∙ (was.status ∙ sym step.stays.hart.status);
    }

-- Another hart.
pub other_fetch : (p q : Picture) (h : ℕ) (slot : Slot) (g : ℕ) (x : HartState) → g ≢ h
    → IsFetch p q slot.seq (fetched_of h slot)
    → HartAgrees p g x → HartAgrees q g x
other_fetch p q h slot g x other step was =
    hart_kept p q g x (step.stays.others g other) step.stays.shared.kept (λ t flies of_hart. step.flights t flies) was
