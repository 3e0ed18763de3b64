-- The oldest decoded instruction of a hart, as its slot.
use Rattle.std.specs.Prelude.{◌≡◌, ℕ, List, [], ◌∷◌, drop}
use Rattle.std.specs.Prelude.{map, Some, slice_index_or}
use Rattle.std.specs.List.{AllByRecursion}
use Rattle.std.proofs.Common.{◌∙◌, refl, sym, ap, subst}
use Rattle.rv_instr.specs.{Table.OpInRange}
use Rattle.rv_instr.proofs.DecodedLemmas.{op_of_word_in_range}
use Rattle.smt_model.specs.{Basics.first}
use Rattle.smt_model.specs.{Picture.Picture}
use Rattle.smt_model.specs.Fates.{is, op_of_fetched}
use Rattle.smt_model.specs.Steps.{op_in}
use Rattle.core_parts.specs.Agree.{fetched_as, IsSlot}
use Rattle.core_parts.specs.{declared.slot.Slot.Slot}

-- A slot that is the first of a hart's rename latch, with number n.
pub record IsNext (p : Picture) (h n : ℕ) (xs : List Slot) (slot : Slot) : Type 0 where
  pub number : slot.seq ≡ n
  pub is : IsSlot p h slot
  pub first : first xs ≡ Some slot
  pub rest : map (λ s. s.seq) xs ≡ n ∷ map (λ s. s.seq) (drop 1 xs)
  pub rest_slots : AllByRecursion (IsSlot p h) (drop 1 xs)

pub next_slot : (p : Picture) (h n : ℕ) (behind : List ℕ) (xs : List Slot) (d : Slot) → map (λ s. s.seq) xs ≡ n ∷ behind
    → AllByRecursion (IsSlot p h) xs → IsNext p h n xs (slice_index_or xs 0 d)
next_slot p h n behind [] d same all = absurd cc
next_slot p h n behind (x ∷ xs) d same all =
    let number : x.seq ≡ n = cc in
    record {
      number = number;
      is = all.0;
      first = refl;
      rest = ap (λ s. s ∷ map (λ s. s.seq) xs) number;
      rest_slots = all.1;
    }

pub slot_op : (p : Picture) (h n : ℕ) (slot : Slot) → slot.seq ≡ n → IsSlot p h slot → op_in p n ≡ slot.op
slot_op p h n slot number is =
    let fetched : p.fetched n ≡ fetched_as h slot.pc slot.word slot.predicted =
    subst (λ s. p.fetched s ≡ fetched_as h slot.pc slot.word slot.predicted) number is.fetched in
    ap op_of_fetched fetched ∙ sym is.op

pub slot_in_range : (p : Picture) (h : ℕ) (slot : Slot) → IsSlot p h slot → OpInRange slot.op
slot_in_range p h slot is = subst OpInRange (sym is.op) (op_of_word_in_range slot.word)
