-- A decode: the parts after it agree with the picture after it; and whether one is allowed.
use Rattle.std.specs.Prelude.{◌≡◌, ◌≢◌, ℕ, List, [], ◌∷◌, ◌++◌, map}
use Rattle.std.specs.List.{AllByRecursion}
use Rattle.std.proofs.Common.{◌∙◌, refl, subst, sym, ap}
use Rattle.rename_map.specs.Maps.{lookup, committed_of}
use Rattle.core_parts.specs.{Agree.IsSlot, Agree.IsActive, Agree.HartAgrees, declared.slot.Slot.Slot}
use Rattle.core_steps.specs.{Decode.IsDecoded}
use Rattle.core_parts.specs.{declared.hart.HartState.HartState}
use Rattle.smt_model.specs.{Picture.Picture, Steps.IsDecode}
use Rattle.core_parts.proofs.Agreement.Harts.{slot_kept, slots_kept, actives_kept, hart_kept}
use Rattle.core_parts.proofs.Agreement.Rest.{KeepsRest, all_kept}

pub slots_push : (p : Picture) (h : ℕ) (xs : List Slot) (x : Slot) → AllByRecursion (IsSlot p h) xs → IsSlot p h x
    → AllByRecursion (IsSlot p h) (xs ++ x ∷ [])
slots_push p h [] x all is_slot = (is_slot, tt)
slots_push p h (y ∷ ys) x all is_slot = (all.0, slots_push p h ys x all.1 is_slot)

pub numbers_push : (xs : List Slot) (x : Slot) → map (λ s. s.seq) (xs ++ x ∷ []) ≡ map (λ s. s.seq) xs ++ x.seq ∷ []
numbers_push [] x = refl
numbers_push (y ∷ ys) x = ap (λ ns. y.seq ∷ ns) (numbers_push ys x)

tail_is : (x y : ℕ) (xs ys : List ℕ) → x ∷ xs ≡ y ∷ ys → (x ≡ y) × (xs ≡ ys)
tail_is x y xs ys same = (cc, cc)

pub keeps_rest : (p q : Picture) (h n : ℕ) → IsDecode p q h n → KeepsRest p q
keeps_rest p q h n step = all_kept p q step.flights step.stays.shared

-- The hart that decodes.
pub own_decode : (p q : Picture) (h n : ℕ) (x y : HartState) → IsDecode p q h n → IsDecoded x y → HartAgrees p h x
    → HartAgrees q h y
own_decode p q h n x y step moved was =
    let kept = step.stays.shared.kept in
    let numbers : moved.slot.seq ∷ map (λ s. s.seq) y.decode_latch.items ≡ n ∷ q.in_decode h =
    sym (ap (map (λ s. s.seq)) moved.decode_latch) ∙ (was.decode_latch ∙ step.in_decode) in
    let parts = tail_is moved.slot.seq n (map (λ s. s.seq) y.decode_latch.items) (q.in_decode h) numbers in
    let slots = subst (AllByRecursion (IsSlot p h)) moved.decode_latch was.decode_slots in
    record {
      decode_latch = parts.1;
      decode_slots = slots_kept p q h y.decode_latch.items kept slots.1;
      rename_latch = ap (map (λ s. s.seq)) moved.rename_latch ∙ (numbers_push x.rename_latch.items moved.slot
          ∙ (ap (λ ns. ns ++ moved.slot.seq ∷ []) was.rename_latch
          ∙ (ap (λ m. p.in_rename h ++ m ∷ []) parts.0 ∙ sym step.in_rename)));
      rename_slots = subst (AllByRecursion (IsSlot q h)) (sym moved.rename_latch)
          (slots_push q h x.rename_latch.items moved.slot (slots_kept p q h x.rename_latch.items kept was.rename_slots)
          (slot_kept p q h moved.slot kept slots.0));
      active = ap (map (λ a. a.seq)) moved.active ∙ (was.active ∙ sym step.stays.hart.flight);
      actives = subst (AllByRecursion (IsActive q h)) (sym moved.active)
          (actives_kept p q h x.active kept (λ t flies of_hart. step.flights t flies) was.actives);
      icount = moved.icount ∙ (was.icount ∙ sym step.stays.hart.icount);
      speculative = λ r above under. ap (λ m. lookup m r) moved.maps
          ∙ (was.speculative r above under ∙ sym (step.stays.hart.mapped r above under));
      committed = λ r above under. ap (λ m. committed_of m r) moved.maps
          ∙ (was.committed r above under ∙ sym (step.stays.hart.committed r above under));
      fetch_pc = moved.fetch_pc ∙ (was.fetch_pc ∙ sym step.stays.hart.fetch_pc);
      status = moved.status ∙ (was.status ∙ sym step.stays.hart.status);
    }

-- Another hart.
pub other_decode : (p q : Picture) (h n g : ℕ) (x : HartState) → g ≢ h → IsDecode p q h n → HartAgrees p g x
    → HartAgrees q g x
other_decode p q h n g x other step was =
    hart_kept p q g x (step.stays.others g other) step.stays.shared.kept (λ t flies of_hart. step.flights t flies) was
