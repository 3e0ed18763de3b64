-- The new entry of the queue, with what the instruction reads.
use Rattle.std.specs.Prelude.{◌≡◌, ℕ, ◌<◌, ◌==◌, nat_lt, true, false, List, [], ◌∷◌}
use Rattle.std.specs.Prelude.{map, length, Option, Some, None, IfSome, slice_index_or}
use Rattle.std.specs.Prelude.{if◌then◌else◌}
use Rattle.std.specs.List.{AllByRecursion}
use Rattle.std.proofs.Common.{◌∙◌, refl, sym, ap, subst, inl, inr, arith}
use Rattle.std.proofs.{lemmas.Bool.cases_Bool, lemmas.Bool.cases_eq}
use Rattle.std.proofs.{lemmas.Bool.Decides.nat_tests}
use Rattle.numbers.specs.Sizes.{most_registers}
use Rattle.rv_instr.specs.{Registers.op_rs1, Registers.op_rs2, declared.op.Op.Op}
use Rattle.rv_instr.proofs.DecodedLemmas.{op_rs1_below, op_rs2_below}
use Rattle.issue_queue.specs.{Queue.has_number, declared.entry.Entry.Entry, declared.entry.Source.Source}
use Rattle.issue_queue.specs.Queue as entries
use Rattle.rename_map.specs.Maps.{Maps}
use Rattle.smt_model.specs.{Basics.first, Basics.or_zero, Kinds.first_source, Kinds.second_source}
use Rattle.smt_model.specs.{Picture.Picture}
use Rattle.smt_model.specs.Fates.{is, is_in_flight, Renamed}
use Rattle.smt_model.specs.Steps.{IsRename}
use Rattle.smt_model.specs.Steps as numbers
use Rattle.core_parts.specs.Agree.{PartsAgree, source_at, IsSlot, HartAgrees}
use Rattle.core_parts.specs.Agree.{IsEntry, ValuesAgree}
use Rattle.core_steps.specs.Renaming.{IsRenaming, IsClaimed, source_in}
use Rattle.core_parts.specs.{declared.slot.Slot.Slot, declared.hart.HartState.HartState, declared.parts.Parts.Parts}
use Rattle.core_parts.proofs.Agreement.Shared.{entry_kept}
use Rattle.core_steps.proofs.Steps.Rename.Slot.{slot_op, slot_in_range}
use Rattle.core_steps.proofs.Steps.Rename.Hart.{rename_flights}

pub not_queued : (p : Picture) (n : ℕ) (xs : List Entry) → is_in_flight (p.fate n) ≡ false
    → AllByRecursion (IsEntry p) xs
    → has_number n xs ≡ false
not_queued p n [] absent all = refl
not_queued p n (x ∷ xs) absent all =
    let apart : (x.seq == n) ≡ false =
    elim (cases_eq x.seq n) [
      | inl same ↦
          let waits : is_in_flight (p.fate n) ≡ true =
          ap is_in_flight (subst (λ s. p.fate s ≡ Renamed) same all.0.waits) in
          absurd (grind arith)
      | inr other ↦ grind (arith, nat_tests)
    ] in
    rw apart (not_queued p n xs absent all.1)

pub all_inserted : (P : Entry → Type 0) (e : Entry) (xs : List Entry) → P e → AllByRecursion P xs
    → AllByRecursion P (entries.inserted_entry e xs)
all_inserted P e [] here all = (here, tt)
all_inserted P e (x ∷ xs) here all =
    elim (cases_Bool (nat_lt e.seq x.seq)) [
      | inl front ↦ rw front (here, all)
      | inr behind ↦ rw behind (all.0, all_inserted P e xs here all.1)
    ]

pub numbers_inserted : (e : Entry) (xs : List Entry)
    → map (λ x. x.seq) (entries.inserted_entry e xs) ≡ numbers.inserted e.seq (map (λ x. x.seq) xs)
numbers_inserted e [] = refl
numbers_inserted e (x ∷ xs) =
    elim (cases_Bool (nat_lt e.seq x.seq)) [
      | inl front ↦ rw front refl
      | inr behind ↦ rw behind (ap (λ ns. x.seq ∷ ns) (numbers_inserted e xs))
    ]

source_found : (p q : Picture) (h n : ℕ) (which : Op → ℕ) (op : Op) (values : List (Option ℕ)) (x : HartState)
    → HartAgrees p h x → length values ≡ most_registers → ValuesAgree p values
    → ((r : ℕ) → 0 < r → r < 32 → IsClaimed p (p.mapped h r)) → which op < 32
    → (0 < which op → q.seen which n ≡ p.mapped h (which op))
    → q.reads which n ≡ (if which op == 0 then Some 0 else p.value (p.mapped h (which op)))
    → source_in values x.maps (which op) ≡ source_at q which n
source_found p q h n which op values x is registers hold claims below sees reads =
    elim (cases_eq (which op) 0) [
      | inl none ↦ let test : (which op == 0) ≡ true = grind (arith, nat_tests) in rw (reads, test) refl
      | inr some ↦
          let test : (which op == 0) ≡ false = grind (arith, nat_tests) in
          let above : 0 < which op = omega arith in
          let claim = claims (which op) above below in
          let found = is.speculative (which op) above below in
          let held : slice_index_or values (p.mapped h (which op)) None ≡ p.value (p.mapped h (which op)) =
          hold (p.mapped h (which op)) None (subst (λ z. p.mapped h (which op) < z) (sym registers) claim.in_range)
          claim.claimed in
          rw (reads, sees above, test, found, held) refl
    ]

-- The queue with the new entry.
pub queue_numbers : (p q : Picture) (h n : ℕ) (taken : Option ℕ) (e : Entry) (xs : List Entry)
    → IsRename p q h n taken → e.seq ≡ n
    → map (λ x. x.seq) xs ≡ p.queue → map (λ x. x.seq) (entries.inserted_entry e xs) ≡ q.queue
queue_numbers p q h n taken e xs step number same =
    numbers_inserted e xs
    ∙ (ap (λ s. numbers.inserted s (map (λ x. x.seq) xs)) number ∙ (ap (numbers.inserted n) same ∙ sym step.queue))

entries_kept : (p q : Picture) (h n : ℕ) (taken : Option ℕ) (xs : List Entry) → IsRename p q h n taken
    → AllByRecursion (IsEntry p) xs
    → AllByRecursion (IsEntry q) xs
entries_kept p q h n taken [] step all = tt
entries_kept p q h n taken (x ∷ xs) step all =
    let waits : is (p.fate x.seq) Renamed ≡ true = ap (λ f. is f Renamed) all.0.waits in
    let flies : is_in_flight (p.fate x.seq) ≡ true = ap is_in_flight all.0.waits in
    let same = rename_flights p q h n taken step x.seq flies in
    let reads = step.readings x.seq waits in
    (entry_kept p q x step.stays.shared.kept same.fate reads.0 reads.1 all.0, entries_kept p q h n taken xs step all.1)

-- The entry of a slot, with a place and the sources that its instruction has.
abbrev pub entry_of : ℕ → ℕ → Slot → Source → Source → Entry
entry_of h place slot one two =
    record { seq = slot.seq; hart = h; place = place; op = slot.op; pc = slot.pc; sources = one ∷ two ∷ [] }

pub entry_in : (p q : Picture) (h place n : ℕ) (taken : Option ℕ) (slot : Slot) (one two : Source) → IsRename p q h n taken
    → slot.seq ≡ n
    → IsSlot p h slot → one ≡ source_at q first_source n → two ≡ source_at q second_source n
    → IsEntry q (entry_of h place slot one two)
entry_in p q h place n taken slot one two step number is first second = record {
  instruction = record { hart = h; pc = slot.pc; word = slot.word; predicted = slot.predicted };
  fetched = step.stays.shared.fetches.fetched slot.seq ∙ is.fetched;
  hart = refl;
  pc = refl;
  op = is.op;
  waits = ap q.fate number ∙ step.fate;
  sources = subst (λ s. one ∷ two ∷ [] ≡ source_at q first_source s ∷ source_at q second_source s ∷ []) (sym number)
      (cc (first, second));
}

pub queue_entries : (p q : Picture) (h n : ℕ) (taken : Option ℕ) (e : Entry) (xs : List Entry) → IsRename p q h n taken
    → IsEntry q e
    → AllByRecursion (IsEntry p) xs → AllByRecursion (IsEntry q) (entries.inserted_entry e xs)
queue_entries p q h n taken e xs step is all = all_inserted (IsEntry q) e xs is (entries_kept p q h n taken xs step all)

pub source_below : (o : Option ℕ) → IfSome o (λ r. r < 32) → or_zero o < 32
source_below None under = omega arith
source_below (Some r) under = under

-- The sources as the code finds them, by the registers that the instruction names.
pub first_found : (p q : Picture) (x : Parts) (size h : ℕ) (taken : Option ℕ) (state : HartState) (slot : Slot)
    → (renaming : IsRenaming p q size h taken)
    → PartsAgree p x → HartAgrees p h state → slot.seq ≡ renaming.number → IsSlot p h slot
    → source_in x.values state.maps (or_zero (op_rs1 slot.op)) ≡ source_at q first_source renaming.number
unfolding first_source
first_found p q x size h taken state slot renaming agrees hart number is =
    let op = slot_op p h renaming.number slot number is in
    let step = renaming.step in
    source_found p q h renaming.number first_source slot.op x.values state hart agrees.registers agrees.values
    renaming.mapped
    (source_below (op_rs1 slot.op) (op_rs1_below slot.op (slot_in_range p h slot is)))
    (subst (λ o. 0 < first_source o → q.seen first_source renaming.number ≡ p.mapped h (first_source o)) op
    step.first.seen)
    (subst
    (λ o. q.reads first_source renaming.number
    ≡ (if first_source o == 0 then Some 0 else p.value (p.mapped h (first_source o)))) op step.first.reads)

pub second_found : (p q : Picture) (x : Parts) (size h : ℕ) (taken : Option ℕ) (state : HartState) (slot : Slot)
    → (renaming : IsRenaming p q size h taken)
    → PartsAgree p x → HartAgrees p h state → slot.seq ≡ renaming.number → IsSlot p h slot
    → source_in x.values state.maps (or_zero (op_rs2 slot.op)) ≡ source_at q second_source renaming.number
unfolding second_source
second_found p q x size h taken state slot renaming agrees hart number is =
    let op = slot_op p h renaming.number slot number is in
    let step = renaming.step in
    source_found p q h renaming.number second_source slot.op x.values state hart agrees.registers agrees.values
    renaming.mapped
    (source_below (op_rs2 slot.op) (op_rs2_below slot.op (slot_in_range p h slot is)))
    (subst (λ o. 0 < second_source o → q.seen second_source renaming.number ≡ p.mapped h (second_source o)) op
    step.second.seen)
    (subst
    (λ o. q.reads second_source renaming.number
    ≡ (if second_source o == 0 then Some 0 else p.value (p.mapped h (second_source o)))) op step.second.reads)

-- The entry that the code makes is the one of the slot, with its sources.
pub same_entry : (h place : ℕ) (xs ys : List Slot) (d : Slot) (values : List (Option ℕ)) (maps : Maps) (one two : Source)
    (r1 r2 : Option ℕ) → xs ≡ ys
    → r1 ≡ op_rs1 (slice_index_or xs 0 d).op → r2 ≡ op_rs2 (slice_index_or xs 0 d).op
    → one ≡ source_in values maps (or_zero r1)
    → two ≡ source_in values maps (or_zero r2) → entry_of h place (slice_index_or xs 0 d) one two
    ≡ entry_of h place (slice_index_or ys 0 d) (source_in values maps (or_zero (op_rs1 (slice_index_or ys 0 d).op)))
    (source_in values maps (or_zero (op_rs2 (slice_index_or ys 0 d).op)))
same_entry h place xs ys d values maps one two r1 r2 same names_one names_two reads_one reads_two =
    let slot = slice_index_or xs 0 d in
    let first : one ≡ source_in values maps (or_zero (op_rs1 slot.op)) =
    reads_one ∙ ap (λ r. source_in values maps (or_zero r)) names_one in
    let second : two ≡ source_in values maps (or_zero (op_rs2 slot.op)) =
    reads_two ∙ ap (λ r. source_in values maps (or_zero r)) names_two in
    subst
    (λ zs.
    entry_of h place slot one two
    ≡ entry_of h place (slice_index_or zs 0 d) (source_in values maps (or_zero (op_rs1 (slice_index_or zs 0 d).op)))
    (source_in values maps (or_zero (op_rs2 (slice_index_or zs 0 d).op))))
    same
    (ap (λ s. entry_of h place slot s two) first
    ∙ ap (λ s. entry_of h place slot (source_in values maps (or_zero (op_rs1 slot.op))) s) second)
