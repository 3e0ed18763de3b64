-- What a rename makes of its hart's own parts: the latch, the active list, the maps and those that are kept.
use Rattle.std.specs.Prelude.{◌≡◌, ℕ, ◌<◌, nat_lt, true, false, List, [], ◌∷◌, ◌++◌, drop}
use Rattle.std.specs.Prelude.{map, length, Option, slice_index_or, slice_set}
use Rattle.std.specs.List.{AllByRecursion}
use Rattle.std.proofs.Common.{◌∙◌, refl, sym, ap, subst, arith}
use Rattle.std.proofs.{lemmas.Bool.and_parts}
use Rattle.std.proofs.lemmas.List.{map_push}
use Rattle.rename_map.specs.Maps.{lookup, committed_of, most_checkpoints}
use Rattle.retire_squash.specs.{Active.Above, declared.active.Active.Active}
use Rattle.smt_model.specs.{Kinds.destination}
use Rattle.smt_model.specs.{Picture.Picture}
use Rattle.smt_model.specs.Fates.{is, is_in_flight}
use Rattle.smt_model.specs.Steps.{IsRename, IsSameInstruction, renamed_map, youngest}
use Rattle.core_parts.specs.Checkpoints.{is_control_transfer, AreCheckpoints, HasCheckpoints}
use Rattle.core_steps.specs.Checkpoints.{is_kept}
use Rattle.core_parts.specs.Squash.{mapped_by}
use Rattle.core_parts.specs.Agree.{IsSlot, IsActive, HartAgrees, EachAgrees}
use Rattle.core_steps.specs.Renaming.{IsRenaming, HasRenamed, active_of}
use Rattle.core_parts.specs.{declared.slot.Slot.Slot, declared.hart.HartState.HartState}
use Rattle.core_parts.proofs.Agreement.Harts.{slots_kept, actives_kept, others_kept, each_set}
use Rattle.core_steps.proofs.Agreement.Checkpoints.{checkpoints_pushed}
use Rattle.core_parts.proofs.Squashing.Parts.{maps_same}
use Rattle.core_steps.proofs.Steps.Rename.Slot.{IsNext, slot_op}

pub rename_flights : (p q : Picture) (h n : ℕ) (taken : Option ℕ) → IsRename p q h n taken → (t : ℕ)
    → is_in_flight (p.fate t) ≡ true
    → IsSameInstruction p q t
rename_flights p q h n taken step t flies =
    step.flights t flies (λ same. let gone : is_in_flight (p.fate t) ≡ false =
    subst (λ s. is_in_flight (p.fate s) ≡ false) (sym same) step.absent in absurd (grind arith))

active_in : (p q : Picture) (h n : ℕ) (taken : Option ℕ) (slot : Slot) → IsRename p q h n taken → slot.seq ≡ n
    → IsSlot p h slot
    → IsActive q h (active_of slot taken)
active_in p q h n taken slot step number is = record {
  fetched = step.stays.shared.fetches.fetched slot.seq ∙ is.fetched;
  op = is.op;
  rd = refl;
  phys = sym (ap q.phys number ∙ step.phys);
  stage = ap q.fate number ∙ step.fate;
}

all_pushed : (P : Active → Type 0) (xs : List Active) (x : Active) → AllByRecursion P xs → P x
    → AllByRecursion P (xs ++ x ∷ [])
all_pushed P [] x all here = (here, tt)
all_pushed P (y ∷ ys) x all here = (all.0, all_pushed P ys x all.1 here)

pub hart_renamed : (p q : Picture) (h n : ℕ) (taken : Option ℕ) (slot : Slot) (x y : HartState) → IsRename p q h n taken
    → IsNext p h n x.rename_latch.items slot → HasRenamed slot taken x y → HartAgrees p h x → HartAgrees q h y
hart_renamed p q h n taken slot x y step next made is =
    let kept = step.stays.shared.kept in
    let behind : map (λ s. s.seq) (drop 1 x.rename_latch.items) ≡ q.in_rename h =
    (let both : n ∷ map (λ s. s.seq) (drop 1 x.rename_latch.items) ≡ n ∷ q.in_rename h = sym next.rest
    ∙ (is.rename_latch ∙ step.in_rename) in cc) in
    let slots = slots_kept p q h (drop 1 x.rename_latch.items) kept next.rest_slots in
    let actives = all_pushed (IsActive q h) x.active (active_of slot taken)
    (actives_kept p q h x.active kept (λ t flies mine. rename_flights p q h n taken step t flies) is.actives)
    (active_in p q h n taken slot step next.number next.is) in
    let op = slot_op p h n slot next.number next.is in
    record {
      decode_latch =
          ap (λ v. map (λ s. s.seq) v.items) made.decode_latch ∙ (is.decode_latch ∙ sym step.stays.hart.in_decode);
      decode_slots = subst (λ v. AllByRecursion (IsSlot q h) v.items) (sym made.decode_latch)
          (slots_kept p q h x.decode_latch.items kept is.decode_slots);
      rename_latch = ap (map (λ s. s.seq)) made.rename_latch ∙ behind;
      rename_slots = subst (AllByRecursion (IsSlot q h)) (sym made.rename_latch) slots;
      active = ap (map (λ a. a.seq)) made.active
          ∙ (map_push (λ (a : Active). a.seq) x.active (active_of slot taken)
          ∙ (ap (λ ns. ns ++ slot.seq ∷ []) is.active
          ∙ (ap (λ s. p.flight h ++ s ∷ []) next.number ∙ sym step.flight)));
      actives = subst (AllByRecursion (IsActive q h)) (sym made.active) actives;
      icount = made.icount ∙ (is.icount ∙ sym step.stays.hart.icount);
      speculative = λ r above under.
          made.speculative r above under
          ∙ (ap (renamed_map (destination slot.op) taken r) (is.speculative r above under)
          ∙ (ap (λ o. renamed_map (destination o) taken r (p.mapped h r)) (sym op) ∙ sym (step.mapped r above under)));
      committed = λ r above under.
          ap (λ (v : List ℕ). slice_index_or v r 0) made.committed
          ∙ (is.committed r above under ∙ sym (step.stays.hart.committed r above under));
      fetch_pc = made.fetch_pc ∙ (is.fetch_pc ∙ sym step.stays.hart.fetch_pc);
      status = made.status ∙ (is.status ∙ sym step.stays.hart.status);
    }

pub harts_renamed : (p q : Picture) (h n : ℕ) (taken : Option ℕ) (slot : Slot) (xs : List HartState) (x y : HartState)
    → IsRename p q h n taken
    → h < length xs → x ≡ slice_index_or xs h x → IsNext p h n x.rename_latch.items slot → HasRenamed slot taken x y
    → EachAgrees p xs → EachAgrees q (slice_set xs h y)
harts_renamed p q h n taken slot xs x y step inside at next made all =
    each_set p q xs h x y inside at (hart_renamed p q h n taken slot x y step next made)
    (others_kept p q h n step.stays step.of_hart step.flights) all

pub above_all : (n : ℕ) (xs : List Active) → AllByRecursion (λ s. s < n) (map (λ a. a.seq) xs) → Above n xs
above_all n [] all = tt
above_all n (x ∷ xs) all = (all.0, above_all n xs all.1)

-- The map before it is what the committed one and the active list make.
whole_map : (p q : Picture) (size h : ℕ) (taken : Option ℕ) (state : HartState) → IsRenaming p q size h taken
    → HartAgrees p h state → (r : ℕ) → 0 < r → r < 32
    → lookup state.maps r ≡ mapped_by r state.active (committed_of state.maps r)
whole_map p q size h taken state renaming hart r low high =
    hart.speculative r low high ∙ renaming.map r low high
    ∙ sym (ap (λ ns. youngest p r ns (p.committed h r)) hart.active)
    ∙ sym (maps_same p h r (p.committed h r) state.active hart.actives)
    ∙ ap (mapped_by r state.active) (sym (hart.committed r low high))

pub checkpoints_renamed : (p q : Picture) (size h : ℕ) (taken : Option ℕ) (slot : Slot) (state new : HartState)
    → (renaming : IsRenaming p q size h taken) → HartAgrees p h state → slot.seq ≡ renaming.number
    → HasRenamed slot taken state new → HasCheckpoints state → HasCheckpoints new
checkpoints_renamed p q size h taken slot state new renaming hart number made kept =
    let above : Above slot.seq state.active =
    subst (λ s. Above s state.active) (sym number)
    (above_all renaming.number state.active
    (subst (AllByRecursion (λ s. s < renaming.number)) (sym hart.active) renaming.younger)) in
    subst (λ xs. AreCheckpoints xs new.maps) (sym made.active)
    (checkpoints_pushed (is_kept slot.op state.maps.kept) state.active (active_of slot taken) state.maps new.maps
    made.committed above
    (λ r low high.
    made.speculative r low high
    ∙ ap (renamed_map (destination slot.op) taken r)
    (whole_map p q size h taken state renaming hart r low high
    ∙ ap (λ (c : List ℕ). mapped_by r state.active (slice_index_or c r 0)) (sym made.committed)))
    (λ is. let transfers =
    (and_parts (is_control_transfer slot.op) (nat_lt (length state.maps.kept) most_checkpoints) is).0 in
    rw transfers refl) made.kept kept)
