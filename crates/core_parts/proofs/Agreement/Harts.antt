-- What a step of one hart leaves: another hart's parts agree with the picture after it as they did, and setting one
-- hart in the list touches no other.
use Rattle.std.specs.Prelude.{◌≡◌, ◌≢◌, ℕ, ◌<◌, ◌==◌, true, List, [], ◌∷◌, Option, Some, None, length, slice_index_or}
use Rattle.std.specs.Prelude.{slice_set}
use Rattle.std.specs.List.{AllByRecursion}
use Rattle.std.proofs.Common.{◌∙◌, refl, subst, sym, inl, inr, arith}
use Rattle.std.proofs.{lemmas.Bool.cases_eq, lemmas.Bool.Decides.nat_tests, lemmas.List.length-set}
use Rattle.std.proofs.{lemmas.List.get_or-set_same, lemmas.List.get_or-set_other}
use Rattle.retire_squash.specs.{declared.active.Active.Active, declared.active.Stage.Stage}
use Rattle.retire_squash.specs.declared.active.Stage.TheVariants as stage
use Rattle.smt_model.specs.{Basics.holds_of, Fates.Fetched, Fates.is_in_flight, Picture.Picture, Frames.HartPart}
use Rattle.smt_model.specs.{Frames.SharedPart, Frames.StaysBut}
use Rattle.smt_model.specs.Steps.{IsSameHart, KeepsFetched, KeepsFlights, IsSameInstruction, is_hart_of}
use Rattle.core_parts.specs.Agree.{IsSlot, IsStage, IsActive, HartAgrees, EachAgrees}
use Rattle.core_parts.specs.{declared.slot.Slot.Slot, declared.hart.HartState.HartState}

-- ---- Members of a latch and of an active list

pub slot_kept : (p q : Picture) (h : ℕ) (x : Slot) → KeepsFetched p q → IsSlot p h x → IsSlot q h x
slot_kept p q h x kept is = record {
  fetched = kept x.seq (record { hart = h; pc = x.pc; word = x.word; predicted = x.predicted }) is.fetched;
  op = is.op;
}

pub slots_kept : (p q : Picture) (h : ℕ) (xs : List Slot) → KeepsFetched p q → AllByRecursion (IsSlot p h) xs
    → AllByRecursion (IsSlot q h) xs
slots_kept p q h [] kept all = tt
slots_kept p q h (x ∷ xs) kept all = (slot_kept p q h x kept all.0, slots_kept p q h xs kept all.1)

-- One whose stage is known is in flight.
pub stage_flies : (p : Picture) (s : ℕ) (at : Stage) → IsStage p s at → is_in_flight (p.fate s) ≡ true
stage_flies p s stage.Renamed is = rw is refl
stage_flies p s stage.Issued is = rw is refl
stage_flies p s (stage.Completed outcome) is = rw is.0 refl

pub stage_kept : (p q : Picture) (s : ℕ) (at : Stage) → IsSameInstruction p q s → IsStage p s at → IsStage q s at
stage_kept p q s stage.Renamed same is = same.fate ∙ is
stage_kept p q s stage.Issued same is = same.fate ∙ is
stage_kept p q s (stage.Completed outcome) same is = (same.fate ∙ is.0, same.completion ∙ is.1)

pub active_kept : (p q : Picture) (h : ℕ) (x : Active) → KeepsFetched p q → IsSameInstruction p q x.seq → IsActive p h x
    → IsActive q h x
active_kept p q h x kept same is = record {
  fetched = kept x.seq (record { hart = h; pc = x.pc; word = x.word; predicted = x.predicted }) is.fetched;
  op = is.op;
  rd = is.rd;
  phys = is.phys ∙ sym same.phys;
  stage = stage_kept p q x.seq x.stage same is.stage;
}

pub actives_kept : (p q : Picture) (h : ℕ) (xs : List Active) → KeepsFetched p q
    → ((t : ℕ) → is_in_flight (p.fate t) ≡ true → is_hart_of p h t ≡ true → IsSameInstruction p q t)
    → AllByRecursion (IsActive p h) xs → AllByRecursion (IsActive q h) xs
actives_kept p q h [] kept same all = tt
actives_kept p q h (x ∷ xs) kept same all =
    let of_hart : is_hart_of p h x.seq ≡ true = rw all.0.fetched (grind (arith, nat_tests)) in (
      active_kept p q h x kept (same x.seq (stage_flies p x.seq x.stage all.0.stage) of_hart) all.0,
      actives_kept p q h xs kept same all.1,
    )

-- ---- A hart that the step isn't of

-- An instruction isn't of two harts.
one_hart : (g h : ℕ) (f : Option Fetched) → holds_of (λ x. x.hart == h) f ≡ true
    → holds_of (λ x. x.hart == g) f ≡ true → g ≡ h
one_hart g h None of_h of_g = absurd (grind arith)
one_hart g h (Some f) of_h of_g = grind (arith, nat_tests)

pub hart_alone : (p : Picture) (g h n t : ℕ) → g ≢ h → is_hart_of p h n ≡ true → is_hart_of p g t ≡ true → t ≢ n
hart_alone p g h n t other of_h of_g =
    λ same. other (one_hart g h (p.fetched n) of_h (subst (λ s. is_hart_of p g s ≡ true) same of_g))

pub hart_kept : (p q : Picture) (h : ℕ) (x : HartState) → IsSameHart p q h → KeepsFetched p q
    → ((t : ℕ) → is_in_flight (p.fate t) ≡ true → is_hart_of p h t ≡ true → IsSameInstruction p q t)
    → HartAgrees p h x → HartAgrees q h x
hart_kept p q h x same kept flights is = record {
  decode_latch = is.decode_latch ∙ sym same.in_decode;
  decode_slots = slots_kept p q h x.decode_latch.items kept is.decode_slots;
  rename_latch = is.rename_latch ∙ sym same.in_rename;
  rename_slots = slots_kept p q h x.rename_latch.items kept is.rename_slots;
  active = is.active ∙ sym same.flight;
  actives = actives_kept p q h x.active kept flights is.actives;
  icount = is.icount ∙ sym same.icount;
  speculative = λ r above under. is.speculative r above under ∙ sym (same.mapped r above under);
  committed = λ r above under. is.committed r above under ∙ sym (same.committed r above under);
  fetch_pc = is.fetch_pc ∙ sym same.fetch_pc;
  status = is.status ∙ sym same.status;
}

-- The others, after a step of instruction n of hart h.
pub others_kept : {parts : List HartPart} → {shared_parts : List SharedPart} → (p q : Picture) (h n : ℕ)
    → StaysBut parts shared_parts p q h
    → is_hart_of p h n ≡ true → KeepsFlights p q n → (g : ℕ) → g ≢ h → (z : HartState) → HartAgrees p g z
    → HartAgrees q g z
others_kept p q h n stays of_hart flights g other z =
    hart_kept p q g z (stays.others g other) stays.shared.kept
    (λ t flies of_g. flights t flies (hart_alone p g h n t other of_hart of_g))

-- ---- The list of harts

-- Hart i has changed, and the others agree as they did.
pub each_set : (p q : Picture) (xs : List HartState) (i : ℕ) (x y : HartState) → i < length xs
    → x ≡ slice_index_or xs i x
    → (HartAgrees p i x → HartAgrees q i y) → ((g : ℕ) → g ≢ i → (z : HartState) → HartAgrees p g z → HartAgrees q g z)
    → EachAgrees p xs → EachAgrees q (slice_set xs i y)
each_set p q xs i x y inside at own others all = λ h d under.
    elim (cases_eq h i) [
      | inl same ↦
          let here : HartAgrees q i y = own (subst (HartAgrees p i) (sym at) (all i x inside)) in
          rw (same, get_or-set_same xs i y d inside) here
      | inr other ↦
          rw (get_or-set_other xs i h y d other)
          (others h other (slice_index_or xs h d) (all h d (omega (arith, length-set {A = HartState}))))
    ]

-- No hart has changed.
pub each_kept : (p q : Picture) (xs : List HartState)
    → ((g : ℕ) → (z : HartState) → HartAgrees p g z → HartAgrees q g z) → EachAgrees p xs
    → EachAgrees q xs
each_kept p q xs kept all = λ h d under. kept h (slice_index_or xs h d) (all h d under)
