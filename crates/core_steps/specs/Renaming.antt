-- When an instruction can be renamed, and what renaming it makes of the parts.
use Rattle.std.specs.Prelude.{◌≡◌, ℕ, ◌<◌, Bool, true, false, not, ◌==◌, ◌&&◌, ◌||◌, nat_le, List}
use Rattle.std.specs.Prelude.{[], ◌∷◌, ◌++◌, drop, length, Option, Some, None, is_some}
use Rattle.std.specs.Prelude.{slice_index_or, slice_set, count_by, if◌then◌else◌}
use Rattle.numbers.specs.Sizes.{most_registers, most_in_flight, most_accesses}
use Rattle.std.specs.List.{AllByRecursion}
use Rattle.rv_instr.specs.declared.op.Op.{Op}
use Rattle.issue_queue.specs.{declared.entry.Source.Source, declared.entry.Source.TheVariants.Value}
use Rattle.rename_map.specs.Maps.{Maps, lookup}
use Rattle.retire_squash.specs.declared.active.Active.{Active}
use Rattle.retire_squash.specs.declared.active.Stage.TheVariants as stage
use Rattle.smt_model.specs.{Basics.first, Basics.how_many, Picture.Picture, Steps.IsRename}
use Rattle.smt_model.specs.{Frames.SameMap, Steps.op_in, Steps.renamed_map, Steps.youngest}
use Rattle.smt_model.specs.Kinds.{kind_of, is_loading, is_storing, destination}
use Rattle.load_store.specs.Queues.{Queues, queues_of}
use Rattle.core_parts.specs.{Accesses.accesses_of, Agree.source_of, declared.slot.Slot.Slot}
use Rattle.core_steps.specs.Checkpoints.{KeepsWhere, is_kept}
use Rattle.core_parts.specs.{declared.hart.HartState.HartState}

-- ---- In the history's words

-- Instruction n of hart h can be renamed with the register `taken`, into a queue with room for
-- `size`.
pub record CanRename (p : Picture) (size h n : ℕ) (taken : Option ℕ) : Type 0 where
  pub oldest : first (p.in_rename h) ≡ Some n
  pub queue_room : length p.queue < size
  pub flight_room : length (p.flight h) < most_in_flight
  pub load_room : is_loading (kind_of (op_in p n)) ≡ true
      → how_many (λ s. is_loading (kind_of (op_in p s))) (p.flight h) < most_accesses
  pub store_room : is_storing (kind_of (op_in p n)) ≡ true
      → how_many (λ s. is_storing (kind_of (op_in p s))) (p.flight h) < most_accesses
  pub fits : is_some taken ≡ not (destination (op_in p n) == 0)
  pub free : (x : ℕ) → taken ≡ Some x → p.free x ≡ true

-- No lower register is free.
abbrev pub IsLeastIn : Picture → Option ℕ → Type 0
IsLeastIn p taken = (x y : ℕ) → taken ≡ Some x → y < x → p.free y ≡ false

-- A physical register that stands for a register of a hart.
pub record IsClaimed (p : Picture) (x : ℕ) : Type 0 where
  pub in_range : x < most_registers
  pub claimed : p.free x ≡ false

-- A rename of hart h's oldest decoded instruction, which is younger than all of the hart's in
-- flight; the hart's map is what the committed one and these make it.
pub record IsRenaming (p q : Picture) (size h : ℕ) (taken : Option ℕ) : Type 0 where
  pub number : ℕ
  pub can : CanRename p size h number taken
  pub step : IsRename p q h number taken
  pub younger : AllByRecursion (λ s. s < number) (p.flight h)
  pub mapped : (r : ℕ) → 0 < r → r < 32 → IsClaimed p (p.mapped h r)
  pub map : SameMap (p.mapped h) (λ r. youngest p r (p.flight h) (p.committed h r))
  pub in_range : (x : ℕ) → taken ≡ Some x → x < most_registers

-- ---- In the parts' words

-- Of so many loads and so many stores of a hart: the loads are as many as there may be and another
-- comes, or the stores are.
abbrev pub has_no_room : Op → ℕ → ℕ → Bool
has_no_room op loads stores =
    (is_loading (kind_of op) && nat_le most_accesses loads)
    || (is_storing (kind_of op) && nat_le most_accesses stores)

-- As those of an active list are.
abbrev pub has_full_memory_queue : Op → List Active → Bool
has_full_memory_queue op xs =
    has_no_room op (count_by (λ x. is_loading (kind_of x.op)) xs)
    (count_by (λ x. is_storing (kind_of x.op)) xs)

-- The loads and stores of hart h are those of this active list.
pub record AreAccesses (all : List Queues) (h : ℕ) (active : List Active) : Type 0 where
  pub touched : ℕ → Bool
  pub queues : queues_of all h ≡ accesses_of touched active

-- The hart's oldest decoded instruction, and the active list has room for it.
pub record CanEnter (x : HartState) (slot : Slot) : Type 0 where
  pub oldest : first x.rename_latch.items ≡ Some slot
  pub room : length x.active < most_in_flight
  pub memory_room : has_full_memory_queue slot.op x.active ≡ false

-- What an instruction reads from register r: 0 for x0 or none, else what its physical register
-- holds, or that register.
abbrev pub source_in : List (Option ℕ) → Maps → ℕ → Source
source_in values maps r = if r == 0 then Value 0
    else source_of (slice_index_or values (lookup maps r) None) (lookup maps r)

-- The register has no number.
abbrev pub emptied : Option ℕ → List (Option ℕ) → List (Option ℕ)
emptied None values = values
emptied (Some x) values = slice_set values x None

-- The instruction of a slot, in flight.
abbrev pub active_of : Slot → Option ℕ → Active
active_of slot taken = record {
  seq = slot.seq;
  rd = destination slot.op;
  phys = taken;
  op = slot.op;
  pc = slot.pc;
  word = slot.word;
  predicted = slot.predicted;
  stage = stage.Renamed;
}

-- A hart's own parts after the rename of its oldest decoded instruction.
pub record HasRenamed (slot : Slot) (taken : Option ℕ) (old new : HartState) : Type 0 where
  pub decode_latch : new.decode_latch ≡ old.decode_latch
  pub rename_latch : new.rename_latch.items ≡ drop 1 old.rename_latch.items
  pub active : new.active ≡ old.active ++ active_of slot taken ∷ []
  pub speculative : (r : ℕ) → 0 < r → r < 32
      → lookup new.maps r ≡ renamed_map (destination slot.op) taken r (lookup old.maps r)
  pub committed : new.maps.committed ≡ old.maps.committed
  pub kept : KeepsWhere (is_kept slot.op old.maps.kept)
      (record { seq = slot.seq; map = new.maps.speculative }) old.maps.kept new.maps.kept
  pub icount : new.icount ≡ old.icount
  pub fetch_pc : new.fetch_pc ≡ old.fetch_pc
  pub status : new.status ≡ old.status
