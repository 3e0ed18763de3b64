-- There is room among a hart's loads and stores for an instruction that can be renamed, and it is the youngest.
use Rattle.std.specs.Prelude.{◌≡◌, ℕ, ◌<◌, Bool, true, List, [], ◌∷◌, map, filter, length, Option, slice_index_or}
use Rattle.std.specs.List.{AllByRecursion}
use Rattle.std.proofs.Common.{◌∙◌, refl, sym, ap, subst, inl, inr}
use Rattle.std.proofs.{lemmas.Bool.cases_Bool, lemmas.List.length-map}
use Rattle.numbers.specs.Sizes.{most_accesses}
use Rattle.rv_instr.specs.declared.op.Op.{Op}
use Rattle.smt_model.specs.{Kinds.kind_of, Kinds.is_loading, Kinds.is_storing, Picture.Picture}
use Rattle.smt_model.specs.Steps.{op_in}
use Rattle.load_store.specs.Queues.{Queues, queues_of, Above, load_numbers, numbers}
use Rattle.core_parts.specs.Accesses.{is_load_in, is_store_in, load_in, store_in, queues_in}
use Rattle.core_parts.specs.{Agree.HartAgrees, Agree.From}
use Rattle.core_steps.specs.{Renaming.IsRenaming}
use Rattle.core_parts.specs.{declared.slot.Slot.Slot, declared.hart.HartState.HartState, declared.parts.Parts.Parts}
use Rattle.core_parts.proofs.Agreement.Queues.{has_place, queues_here, queues_are}
use Rattle.core_steps.proofs.Steps.Rename.Slot.{next_slot, slot_op}

all_filter : (P : ℕ → Type 0) (test : ℕ → Bool) (xs : List ℕ) → AllByRecursion P xs → AllByRecursion P (filter test xs)
all_filter P test [] all = tt
all_filter P test (x ∷ xs) all = elim (cases_Bool (test x)) [
  | inl t ↦ rw t (all.0, all_filter P test xs all.1)
  | inr f ↦ rw f (all_filter P test xs all.1)
]

numbers_in : (p : Picture) (xs : List ℕ) → numbers (map (store_in p) xs) ≡ xs
numbers_in p [] = refl
numbers_in p (x ∷ xs) = ap (λ ns. x ∷ ns) (numbers_in p xs)

load_numbers_in : (p : Picture) (xs : List ℕ) → load_numbers (map (load_in p) xs) ≡ xs
load_numbers_in p [] = refl
load_numbers_in p (x ∷ xs) = ap (λ ns. x ∷ ns) (load_numbers_in p xs)

-- What the code must know before it adds instruction `seq` to these queues.
pub record HasRoom (op : Op) (seq : ℕ) (q : Queues) : Type 0 where
  pub load_room : is_loading (kind_of op) ≡ true → length q.loads < most_accesses
  pub store_room : is_storing (kind_of op) ≡ true → length q.stores < most_accesses
  pub load_above : Above seq (load_numbers q.loads)
  pub store_above : Above seq (numbers q.stores)

room_in : (p q : Picture) (size h : ℕ) (taken : Option ℕ) → (renaming : IsRenaming p q size h taken) → (op : Op)
    → op_in p renaming.number ≡ op → HasRoom op renaming.number (queues_in p h)
room_in p q size h taken renaming op same =
    let n = renaming.number in
    let loads : List ℕ = filter (is_load_in p) (p.flight h) in
    let stores : List ℕ = filter (is_store_in p) (p.flight h) in
    record {
      load_room = λ loading.
          subst (λ m. m < most_accesses) (sym (length-map loads (load_in p)))
          (renaming.can.load_room (ap (λ o. is_loading (kind_of o)) same ∙ loading));
      store_room = λ storing.
          subst (λ m. m < most_accesses) (sym (length-map stores (store_in p)))
          (renaming.can.store_room (ap (λ o. is_storing (kind_of o)) same ∙ storing));
      load_above =
          subst (Above n) (sym (load_numbers_in p loads))
          (all_filter (λ s. s < n) (is_load_in p) (p.flight h) renaming.younger);
      store_above =
          subst (Above n) (sym (numbers_in p stores))
          (all_filter (λ s. s < n) (is_store_in p) (p.flight h) renaming.younger);
    }

-- Of the slot as the code reads it.
pub room_at : (x : Parts) (h : ℕ) (taken : Option ℕ) (i : ℕ) (state : HartState) (slots : List Slot) (d : Slot)
    → From x h (λ p q. IsRenaming p q x.queue.size h taken) → i ≡ h → state ≡ slice_index_or x.harts.items i state
    → slots ≡ state.rename_latch.items
    → HasRoom (slice_index_or slots 0 d).op (slice_index_or slots 0 d).seq (queues_of x.accesses h)
room_at x h taken i state slots d from same at read =
    let p = from.before in
    let here : state ≡ slice_index_or x.harts.items h state =
    subst (λ j. state ≡ slice_index_or x.harts.items j state) same at in
    let hart : HartAgrees p h state = subst (HartAgrees p h) (sym here) (from.agrees.harts h state from.inside) in
    let next = next_slot p h from.step.number (from.after.in_rename h) state.rename_latch.items d
    (hart.rename_latch ∙ from.step.step.in_rename) hart.rename_slots in
    let slot = slice_index_or state.rename_latch.items 0 d in
    let op = slot_op p h from.step.number slot next.number next.is in
    let queues : queues_in p h ≡ queues_of x.accesses h =
    sym (queues_here x.harts.items x.accesses h state from.agrees.accesses from.inside here
    ∙ queues_are p h state hart) in
    subst (λ xs. HasRoom (slice_index_or xs 0 d).op (slice_index_or xs 0 d).seq (queues_of x.accesses h)) (sym read)
    (subst (HasRoom slot.op slot.seq) queues
    (subst (λ s. HasRoom slot.op s (queues_in p h)) (sym next.number)
    (room_in p from.after x.queue.size h taken from.step slot.op op)))

-- A hart that renames has a place among the queues.
pub place_at : (x : Parts) (h : ℕ) (taken : Option ℕ) → From x h (λ p q. IsRenaming p q x.queue.size h taken)
    → h < length x.accesses
place_at x h taken from = has_place x.harts.items x.accesses h from.agrees.accesses from.inside
