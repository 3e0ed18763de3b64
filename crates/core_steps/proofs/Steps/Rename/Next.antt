-- What the code finds of a hart's oldest decoded instruction is what the picture says of a rename: whether there is
-- room, and which register.
use Rattle.std.specs.Prelude.{◌≡◌, ℕ, ◌+◌, ◌<◌, ◌==◌, ◌&&◌, if◌then◌else◌, nat_le, not, Bool, true, false, List, []}
use Rattle.std.specs.Prelude.{◌∷◌, map, count_by, length, Option, Some, None, is_some, slice_index_or}
use Rattle.std.specs.List.{AllByRecursion}
use Rattle.std.proofs.Common.{◌∙◌, refl, sym, ap, subst, arith}
use Rattle.std.proofs.{lemmas.Bool.or_parts, lemmas.Bool.Decides.nat_tests, lemmas.List.length-map}
use Rattle.std.proofs.{lemmas.List.Sums.length-filter}
use Rattle.numbers.specs.Sizes.{most_accesses}
use Rattle.rv_instr.specs.declared.op.Op.{Op}
use Rattle.free_list.specs.Flags.{holds}
use Rattle.retire_squash.specs.declared.active.Active.{Active}
use Rattle.smt_model.specs.{Basics.first, Basics.how_many, Picture.Picture, Steps.op_in}
use Rattle.smt_model.specs.Kinds.{kind_of, is_loading, is_storing, destination}
use Rattle.core_parts.specs.Agree.{PartsAgree, HartAgrees, IsSlot, IsActive}
use Rattle.core_steps.specs.{Renaming.CanRename, Renaming.CanEnter}
use Rattle.core_parts.specs.{declared.slot.Slot.Slot}
use Rattle.core_parts.specs.{declared.hart.HartState.HartState, declared.parts.Parts.Parts}
use Rattle.core_parts.proofs.{Agreement.Queues.active_op}
use Rattle.core_steps.proofs.{Steps.Rename.Slot.slot_op}

-- ---- Counting

how_many-first : {A : Type 0} (test : A → Bool) (x : A) (xs : List A) (b : Bool) → test x ≡ b
    → how_many test (x ∷ xs) ≡ (if b then how_many test xs + 1 else how_many test xs)
how_many-first test x xs true is = rw is (omega arith)
how_many-first test x xs false is = rw is refl

counted_all : (p : Picture) (h : ℕ) (test : Op → Bool) (xs : List Active) → AllByRecursion (IsActive p h) xs
    → how_many (λ s. test (op_in p s)) (map (λ a. a.seq) xs) ≡ how_many (λ (a : Active). test a.op) xs
counted_all p h test [] all = refl
counted_all p h test (x ∷ xs) all =
    how_many-first (λ s. test (op_in p s)) x.seq (map (λ a. a.seq) xs) (test x.op) (ap test (active_op p h x all.0))
    ∙ (ap (λ n. if test x.op then n + 1 else n) (counted_all p h test xs all.1)
    ∙ sym (how_many-first (λ (a : Active). test a.op) x xs (test x.op) refl))

pub counted : (p : Picture) (h : ℕ) (test : Op → Bool) (xs : List Active) → AllByRecursion (IsActive p h) xs
    → how_many (λ s. test (op_in p s)) (map (λ a. a.seq) xs) ≡ count_by (λ a. test a.op) xs
counted p h test xs all = counted_all p h test xs all ∙ length-filter (λ (a : Active). test a.op) xs

room_by : (b : Bool) (n : ℕ) → (b && nat_le most_accesses n) ≡ false → b ≡ true → n < most_accesses
room_by b n free is = grind (arith, nat_tests)

no_room_by : (b : Bool) (n : ℕ) → (b ≡ true → n < most_accesses) → (b && nat_le most_accesses n) ≡ false
no_room_by true n room = let under : n < most_accesses = room refl in grind (arith, nat_tests)
no_room_by false n room = refl

-- ---- The oldest decoded

first_seq : (xs : List Slot) (slot : Slot) → first xs ≡ Some slot → first (map (λ s. s.seq) xs) ≡ Some slot.seq
first_seq [] slot found = absurd cc
first_seq (x ∷ xs) slot found = let same : x ≡ slot = cc in ap (λ (s : Slot). Some s.seq) same

first_is : (p : Picture) (h : ℕ) (xs : List Slot) (slot : Slot) → first xs ≡ Some slot → AllByRecursion (IsSlot p h) xs
    → IsSlot p h slot
first_is p h [] slot found all = absurd cc
first_is p h (x ∷ xs) slot found all = let same : x ≡ slot = cc in subst (IsSlot p h) same all.0

-- The slot whose number the picture names.
pub record Oldest (p : Picture) (h n : ℕ) (xs : List Slot) : Type 0 where
  pub slot : Slot
  pub found : first xs ≡ Some slot
  pub number : slot.seq ≡ n
  pub is : IsSlot p h slot

oldest_slot : (p : Picture) (h n : ℕ) (xs : List Slot) → first (map (λ s. s.seq) xs) ≡ Some n
    → AllByRecursion (IsSlot p h) xs → Oldest p h n xs
oldest_slot p h n [] found all = absurd cc
oldest_slot p h n (x ∷ xs) found all = record { slot = x; found = refl; number = cc; is = all.0 }

-- ---- From the parts to the picture

pub can_rename : (p : Picture) (x : Parts) (h : ℕ) (state : HartState) (slot : Slot) (taken : Option ℕ) → PartsAgree p x
    → h < length x.harts.items → state ≡ slice_index_or x.harts.items h state → CanEnter state slot
    → length x.queue.entries < x.queue.size
    → is_some taken ≡ not (destination slot.op == 0) → ((y : ℕ) → taken ≡ Some y → holds x.free y ≡ true)
    → CanRename p x.queue.size h slot.seq taken
can_rename p x h state slot taken agrees inside at enters room fits free =
    let hart : HartAgrees p h state = subst (HartAgrees p h) (sym at) (agrees.harts h state inside) in
    let is = first_is p h state.rename_latch.items slot enters.oldest hart.rename_slots in
    let op : op_in p slot.seq ≡ slot.op = slot_op p h slot.seq slot refl is in
    let memory =
    or_parts
    (is_loading (kind_of slot.op)
    && nat_le most_accesses (count_by (λ a. is_loading (kind_of a.op)) state.active))
    (is_storing (kind_of slot.op) && nat_le most_accesses (count_by (λ a. is_storing (kind_of a.op)) state.active))
    enters.memory_room in
    let loads = counted p h (λ o. is_loading (kind_of o)) state.active hart.actives in
    let stores = counted p h (λ o. is_storing (kind_of o)) state.active hart.actives in
    record {
      oldest = subst (λ ns. first ns ≡ Some slot.seq) hart.rename_latch
          (first_seq state.rename_latch.items slot enters.oldest);
      queue_room = subst (λ ns. length ns < x.queue.size) agrees.queue.numbers (rw length-map room);
      flight_room = subst (λ ns. length ns < 64) hart.active (rw length-map enters.room);
      load_room = λ loading.
          subst (λ ns. how_many (λ s. is_loading (kind_of (op_in p s))) ns < most_accesses) hart.active
          (subst (λ n. n < most_accesses) (sym loads)
          (room_by (is_loading (kind_of slot.op)) (count_by (λ a. is_loading (kind_of a.op)) state.active) memory.0
          (ap (λ o. is_loading (kind_of o)) (sym op) ∙ loading)));
      store_room = λ storing.
          subst (λ ns. how_many (λ s. is_storing (kind_of (op_in p s))) ns < most_accesses) hart.active
          (subst (λ n. n < most_accesses) (sym stores)
          (room_by (is_storing (kind_of slot.op)) (count_by (λ a. is_storing (kind_of a.op)) state.active) memory.1
          (ap (λ o. is_storing (kind_of o)) (sym op) ∙ storing)));
      fits = fits ∙ ap (λ o. not (destination o == 0)) (sym op);
      free = λ y same. sym (agrees.free y) ∙ free y same;
    }

-- ---- And back

pub record Enters (p : Picture) (h n : ℕ) (state : HartState) : Type 0 where
  pub slot : Slot
  pub enters : CanEnter state slot
  pub op : op_in p n ≡ slot.op

pub must_enter : (p : Picture) (x : Parts) (h n : ℕ) (state : HartState) (taken : Option ℕ) → PartsAgree p x
    → h < length x.harts.items → state ≡ slice_index_or x.harts.items h state → CanRename p x.queue.size h n taken
    → Enters p h n state
must_enter p x h n state taken agrees inside at can =
    let hart : HartAgrees p h state = subst (HartAgrees p h) (sym at) (agrees.harts h state inside) in
    let oldest = oldest_slot p h n state.rename_latch.items
    (subst (λ ns. first ns ≡ Some n) (sym hart.rename_latch) can.oldest) hart.rename_slots in
    let slot = oldest.slot in
    let op : op_in p n ≡ slot.op = slot_op p h n slot oldest.number oldest.is in
    let loads = counted p h (λ o. is_loading (kind_of o)) state.active hart.actives in
    let stores = counted p h (λ o. is_storing (kind_of o)) state.active hart.actives in
    let no_load = no_room_by (is_loading (kind_of slot.op)) (count_by (λ a. is_loading (kind_of a.op)) state.active)
    (λ loading. subst (λ m. m < most_accesses) loads
    (subst (λ ns. how_many (λ s. is_loading (kind_of (op_in p s))) ns < most_accesses) (sym hart.active)
    (can.load_room (ap (λ o. is_loading (kind_of o)) op ∙ loading)))) in
    let no_store = no_room_by (is_storing (kind_of slot.op)) (count_by (λ a. is_storing (kind_of a.op)) state.active)
    (λ storing. subst (λ m. m < most_accesses) stores
    (subst (λ ns. how_many (λ s. is_storing (kind_of (op_in p s))) ns < most_accesses) (sym hart.active)
    (can.store_room (ap (λ o. is_storing (kind_of o)) op ∙ storing)))) in
    record {
      slot = slot;
      enters = record {
        oldest = oldest.found;
        room = subst (λ m. m < 64) (length-map state.active (λ a. a.seq))
            (subst (λ ns. length ns < 64) (sym hart.active) can.flight_room);
        memory_room = rw (no_load, no_store) refl;
      };
      op = op;
    }

pub same_first : (one two : Slot) (state : HartState) → CanEnter state one → CanEnter state two → one ≡ two
same_first one two state first second = let both : Some one ≡ Some two = sym first.oldest ∙ second.oldest in cc

-- A register that is written needs a free one.
pub needs_register : (p : Picture) (x : Parts) (n : ℕ) (op : Op) (taken : Option ℕ) → PartsAgree p x → op_in p n ≡ op
    → not (destination op == 0) ≡ true → ((y : ℕ) → holds x.free y ≡ false)
    → is_some taken ≡ not (destination (op_in p n) == 0)
    → ((y : ℕ) → taken ≡ Some y → p.free y ≡ true) → ⊥
needs_register p x n op None agrees same writes none fits free =
    let wants : false ≡ true = fits ∙ (ap (λ o. not (destination o == 0)) same ∙ writes) in absurd cc
needs_register p x n op (Some y) agrees same writes none fits free =
    let both : true ≡ false = sym (free y refl) ∙ (sym (agrees.free y) ∙ none y) in absurd cc
