-- The oldest of a rename latch.
use Rattle.std.specs.Prelude.{◌≡◌, ℕ, ◌<◌, List, [], ◌∷◌, map, Option, Some, None, IfSome, IfNone, slice_get, slice_index_or, length}
use Rattle.std.specs.List.{AllByRecursion}
use Rattle.std.proofs.Common.{refl, sym, ap, subst, arith}
use Rattle.smt_model.specs.{Basics.first, Flights.in_rename, Picture.picture}
use Rattle.core_parts.specs.Agree.{HartAgrees, IsSlot, PartsAgree}
use Rattle.core_parts.specs.{declared.slot.Slot.Slot, declared.hart.HartState.HartState}
use Rattle.core_parts.specs.declared.parts.Parts.{Parts}
use Rattle.core_state.specs.View.{CoreView}
use Rattle.chart_registers.specs.Finding.{IsDecoded}

same_slot : (a b : Slot) → Some a ≡ Some b → a ≡ b
same_slot a b same = cc

oldest_by : (core : CoreView) (h : ℕ) (slots : List Slot) (slot : Slot) → h < core.setup.harts
    → map (λ (s : Slot). s.seq) slots ≡ in_rename core.past h
    → AllByRecursion (IsSlot (picture core.setup core.past) h) slots → slice_get slots 0 ≡ Some slot
    → IsDecoded core slot.seq h slot.op
oldest_by core h [] slot inside numbers are at = absurd (grind arith)
oldest_by core h (x ∷ xs) slot inside numbers are at =
    let same : x ≡ slot = same_slot x slot at in
    subst (λ (s : Slot). IsDecoded core s.seq h s.op) same (record {
      inside = inside;
      oldest = ap first (sym numbers);
      instruction = record { hart = h; pc = x.pc; word = x.word; predicted = x.predicted };
      fetched = are.0.fetched;
      hart = refl;
      is = are.0.op;
    })

none_by : (core : CoreView) (h : ℕ) (slots : List Slot) → map (λ (s : Slot). s.seq) slots ≡ in_rename core.past h
    → slice_get slots 0 ≡ None → first (in_rename core.past h) ≡ None
none_by core h [] numbers at = ap first (sym numbers)
none_by core h (x ∷ xs) numbers at = absurd (grind arith)

oldest_is : (core : CoreView) (h : ℕ) (x : HartState) (o : Option Slot) → h < core.setup.harts
    → HartAgrees (picture core.setup core.past) h x → slice_get x.rename_latch.items 0 ≡ o
    → IfSome o (λ slot. IsDecoded core slot.seq h slot.op)
oldest_is core h x None inside agrees at = tt
oldest_is core h x (Some slot) inside agrees at =
    oldest_by core h x.rename_latch.items slot inside agrees.rename_latch agrees.rename_slots at

pub oldest_if : (core : CoreView) (h : ℕ) (x : HartState) (o : Option Slot) → h < core.setup.harts
    → HartAgrees (picture core.setup core.past) h x → o ≡ slice_get x.rename_latch.items 0
    → IfSome o (λ slot. IsDecoded core slot.seq h slot.op)
oldest_if core h x o inside agrees at = oldest_is core h x o inside agrees (sym at)

none_is : (core : CoreView) (h : ℕ) (x : HartState) (o : Option Slot)
    → HartAgrees (picture core.setup core.past) h x → slice_get x.rename_latch.items 0 ≡ o
    → IfNone o (first (in_rename core.past h) ≡ None)
none_is core h x None agrees at = none_by core h x.rename_latch.items agrees.rename_latch at
none_is core h x (Some slot) agrees at = tt

pub none_if : (core : CoreView) (h : ℕ) (x : HartState) (o : Option Slot)
    → HartAgrees (picture core.setup core.past) h x → o ≡ slice_get x.rename_latch.items 0
    → IfNone o (first (in_rename core.past h) ≡ None)
none_if core h x o agrees at = none_is core h x o agrees (sym at)

-- The state at a hart's place is that hart's.
pub at_hart : (core : CoreView) (parts : Parts) (h i : ℕ) (x : HartState) → PartsAgree (picture core.setup core.past) parts
    → length parts.harts.items ≡ core.setup.harts → h < core.setup.harts → i ≡ h
    → x ≡ slice_index_or parts.harts.items i x → HartAgrees (picture core.setup core.past) h x
at_hart core parts h i x agrees count inside same is =
    let here : x ≡ slice_index_or parts.harts.items h x =
    subst (λ k. x ≡ slice_index_or parts.harts.items k x) same is in
    subst (λ (s : HartState). HartAgrees (picture core.setup core.past) h s) (sym here)
    (agrees.harts h x (omega (arith, count, inside)))
