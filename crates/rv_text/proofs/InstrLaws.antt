-- Each row: the instruction that is read is spelled so, and what is spelled so is read.
use Rattle.std.proofs.Common.{◌≡◌, ℕ, ◌^◌, ◌<◌, List, [], Result, Ok, Err, refl, subst, lit<, lit≤}
use Rattle.std.specs.{Prelude.codes, Char.is_ascii_digit, Char.is_ascii_hexdigit}
use Rattle.rv_instr.specs.{declared.instr.Instr.Instr, declared.instr.Ordering.Ordering, Table.IsInstructionInRange}
use Rattle.rv_instr.specs.{Table.IsSigned, Table.IsDistance}
use Rattle.rv_instr.specs.declared.instr.Instr.TheVariants as instr
use Rattle.rv_text.specs.{declared.refused.TextRefused.TextRefused}
use Rattle.rv_text.specs.{declared.mnemonic.Mnemonic.Mnemonic}
use Rattle.rv_text.specs.{declared.mnemonic.AtomicOp.AtomicOp, declared.mnemonic.AtomicOp.TheVariants.LoadReserved}
use Rattle.rv_text.specs.{declared.mnemonic.AtomicOp.TheVariants.StoreConditional}
use Rattle.rv_text.specs.{declared.mnemonic.AtomicOp.TheVariants.Amo}
use Rattle.rv_text.specs.declared.mnemonic.Mnemonic.TheVariants.{Lui, Auipc, Jal, Jalr, Branch, Load, Store, Immediate}
use Rattle.rv_text.specs.declared.mnemonic.Mnemonic.TheVariants.{Shift, Register, MulDiv, Fence, InstructionFence, Ecall, Ebreak, Atomic}
use Rattle.rv_text.specs.Spelling.{mnemonic_of, register_text, first_register_text, next_register, base_register}
use Rattle.rv_text.specs.Spelling.{address_register, signed_text, amount_text, hex_text, target_text, operands_of}
use Rattle.rv_text.specs.Spelling.{HasWord}
use Rattle.rv_text.specs.Reading.{◌>>=◌, first_at, next_at, base_at, address_at, signed_at, target_at, end_at}
use Rattle.rv_text.specs.Reading.{upper_operands, jump_operands, branch_operands, memory_operands, immediate_operands}
use Rattle.rv_text.specs.Reading.{shift_operands, register_operands, load_reserved_operands, atomic_operands, atomic_at}
use Rattle.rv_text.specs.Reading.{no_operands, upper_of, jump_of, branch_of, load_of, store_of, immediate_of, shift_of}
use Rattle.rv_text.specs.Reading.{register_of, reserved_of, atomic_of, operands_at, instr_at}
use Rattle.rv_text.specs.{declared.operands.Operands.Operands, Operands.instr_with}
use Rattle.rv_text.proofs.FieldLaws.{ok_is, IsField, EndsAt, register_is, signed_is, amount_is, upper_is}
use Rattle.rv_text.proofs.TargetLaws.{target_is}
use Rattle.rv_text.proofs.RowLaws.{end_at_takes, end_at_again, two_takes, two_again, two_alone_takes, two_alone_again}
use Rattle.rv_text.proofs.RowLaws.{three_takes, three_again, three_alone_takes, three_alone_again}

-- ---- the fields of the rows

first_is : IsField first_register_text (λ n. n < 32) (EndsAt is_ascii_digit) first_at
first_is = register_is (codes " x")

next_is : IsField next_register (λ n. n < 32) (EndsAt is_ascii_digit) next_at
next_is = register_is (codes ",x")

base_is : IsField base_register (λ n. n < 32) (EndsAt is_ascii_digit) base_at
base_is = register_is (codes "(x")

address_is : IsField address_register (λ n. n < 32) (EndsAt is_ascii_digit) address_at
address_is = register_is (codes ",(x")

immediate_is : IsField signed_text (IsSigned 12) (EndsAt is_ascii_digit) (signed_at (2 ^ 11))
immediate_is = signed_is (2 ^ 11) (lit≤ tt) (lit< tt)

jump_is : (pc : ℕ) → pc < 2 ^ 32
    → IsField (target_text pc) (IsDistance 21) (EndsAt is_ascii_hexdigit) (target_at (2 ^ 20) pc)
jump_is pc here = target_is (2 ^ 20) pc (lit≤ tt) here

branch_is : (pc : ℕ) → pc < 2 ^ 32
    → IsField (target_text pc) (IsDistance 13) (EndsAt is_ascii_hexdigit) (target_at (2 ^ 12) pc)
branch_is pc here = target_is (2 ^ 12) pc (lit≤ tt) here

-- ---- what is read

-- what was read where the row is m
pub record IsRead (pc : ℕ) (m : Mnemonic) (text : List ℕ) (i : Instr) : Type 0 where
  pub row : mnemonic_of i ≡ m
  pub in_range : IsInstructionInRange i
  pub has_word : HasWord i
  pub spelled : text ≡ operands_of i pc

-- what is true of each instruction that these operands make
made : {X : Type 0} (pc : ℕ) (m : Mnemonic) (text : List ℕ) (read : Result X TextRefused) (of : X → Operands)
    → ((x : X) → read ≡ Ok x → IsRead pc m text (instr_with m (of x))) → (i : Instr)
    → (read >>= (λ x. Ok (of x)) >>= λ o. Ok (instr_with m o)) ≡ Ok i → IsRead pc m text i
made pc m text (Ok x) of h i e =
    subst (λ (y : Instr). IsRead pc m text y) (ok_is (instr_with m (of x)) i e) (h x refl)
made pc m text (Err d) of h i e = absurd cc

atomic_takes : (pc : ℕ) (op : AtomicOp) (ordering : Ordering) (text : List ℕ) (i : Instr)
    → (atomic_at op text >>= λ o. Ok (instr_with (Atomic op ordering) o)) ≡ Ok i
    → IsRead pc (Atomic op ordering) text i
unfolding instr_with load_reserved_operands atomic_operands
atomic_takes pc LoadReserved ordering text i e =
    made pc (Atomic LoadReserved ordering) text (load_reserved_operands text) reserved_of
    (λ x read. let t = two_takes first_is address_is (codes ")") text x read in
    record { row = refl; in_range = (t.1, t.2); has_word = tt; spelled = t.0 }) i e
atomic_takes pc StoreConditional ordering text i e =
    made pc (Atomic StoreConditional ordering) text (atomic_operands text)
    atomic_of
    (λ x read. let t = three_takes first_is next_is address_is (codes ")") text x read in
    record { row = refl; in_range = (t.1, t.3, t.2); has_word = tt; spelled = t.0 }) i e
atomic_takes pc (Amo kind) ordering text i e =
    made pc (Atomic (Amo kind) ordering) text (atomic_operands text) atomic_of
    (λ x read. let t = three_takes first_is next_is address_is (codes ")") text x read in
    record { row = refl; in_range = (t.1, t.3, t.2); has_word = tt; spelled = t.0 }) i e

pub instr_takes : (pc : ℕ) → pc < 2 ^ 32 → (m : Mnemonic) (text : List ℕ) (i : Instr) → instr_at pc m text ≡ Ok i
    → IsRead pc m text i
unfolding instr_at operands_at instr_with upper_operands jump_operands branch_operands memory_operands
    immediate_operands shift_operands register_operands
instr_takes pc here Lui text i e = made pc Lui text (upper_operands text) upper_of
    (λ x read. let t = two_alone_takes first_is upper_is text x read in
    record { row = refl; in_range = (t.1, t.2.0); has_word = t.2.1; spelled = t.0 }) i e
instr_takes pc here Auipc text i e = made pc Auipc text (upper_operands text) upper_of
    (λ x read. let t = two_alone_takes first_is upper_is text x read in
    record { row = refl; in_range = (t.1, t.2.0); has_word = t.2.1; spelled = t.0 }) i e
instr_takes pc here Jal text i e = made pc Jal text (jump_operands pc text) jump_of
    (λ x read. let t = two_alone_takes first_is (jump_is pc here) text x read in
    record { row = refl; in_range = (t.1, t.2); has_word = tt; spelled = t.0 }) i e
instr_takes pc here Jalr text i e = made pc Jalr text (memory_operands text) load_of
    (λ x read. let t = three_takes first_is immediate_is base_is (codes ")") text x read in
    record { row = refl; in_range = (t.1, t.3, t.2); has_word = tt; spelled = t.0 }) i e
instr_takes pc here (Branch op) text i e =
    made pc (Branch op) text (branch_operands pc text) branch_of
    (λ x read. let t = three_alone_takes first_is next_is (branch_is pc here) text x read in
    record { row = refl; in_range = (t.1, t.2, t.3); has_word = tt; spelled = t.0 }) i e
instr_takes pc here (Load op) text i e = made pc (Load op) text (memory_operands text) load_of
    (λ x read. let t = three_takes first_is immediate_is base_is (codes ")") text x read in
    record { row = refl; in_range = (t.1, t.3, t.2); has_word = tt; spelled = t.0 }) i e
instr_takes pc here (Store op) text i e =
    made pc (Store op) text (memory_operands text) store_of
    (λ x read. let t = three_takes first_is immediate_is base_is (codes ")") text x read in
    record { row = refl; in_range = (t.1, t.3, t.2); has_word = tt; spelled = t.0 }) i e
instr_takes pc here (Immediate op) text i e =
    made pc (Immediate op) text (immediate_operands text) immediate_of
    (λ x read. let t = three_alone_takes first_is next_is immediate_is text x read in
    record { row = refl; in_range = (t.1, t.2, t.3); has_word = tt; spelled = t.0 }) i e
instr_takes pc here (Shift op) text i e =
    made pc (Shift op) text (shift_operands text) shift_of
    (λ x read. let t = three_alone_takes first_is next_is amount_is text x read in
    record { row = refl; in_range = (t.1, t.2, t.3); has_word = tt; spelled = t.0 }) i e
instr_takes pc here (Register op) text i e =
    made pc (Register op) text (register_operands text) register_of
    (λ x read. let t = three_alone_takes first_is next_is next_is text x read in
    record { row = refl; in_range = (t.1, t.2, t.3); has_word = tt; spelled = t.0 }) i e
instr_takes pc here (MulDiv op) text i e =
    made pc (MulDiv op) text (register_operands text) register_of
    (λ x read. let t = three_alone_takes first_is next_is next_is text x read in
    record { row = refl; in_range = (t.1, t.2, t.3); has_word = tt; spelled = t.0 }) i e
instr_takes pc here Fence text i e = made pc Fence text (end_at [] text) (λ x. no_operands)
    (λ x read. record { row = refl; in_range = tt; has_word = tt; spelled = end_at_takes [] text x read }) i e
instr_takes pc here InstructionFence text i e =
    made pc InstructionFence text (end_at [] text) (λ x. no_operands)
    (λ x read. record { row = refl; in_range = tt; has_word = tt; spelled = end_at_takes [] text x read }) i e
instr_takes pc here Ecall text i e = made pc Ecall text (end_at [] text) (λ x. no_operands)
    (λ x read. record { row = refl; in_range = tt; has_word = tt; spelled = end_at_takes [] text x read }) i e
instr_takes pc here Ebreak text i e = made pc Ebreak text (end_at [] text) (λ x. no_operands)
    (λ x read. record { row = refl; in_range = tt; has_word = tt; spelled = end_at_takes [] text x read }) i e
instr_takes pc here (Atomic op ordering) text i e = atomic_takes pc op ordering text i e

-- ---- what is spelled

pub instr_again : (pc : ℕ) → pc < 2 ^ 32 → (i : Instr) → IsInstructionInRange i → HasWord i
    → instr_at pc (mnemonic_of i) (operands_of i pc) ≡ Ok i
unfolding instr_at operands_at instr_with upper_operands jump_operands branch_operands memory_operands immediate_operands
    shift_operands register_operands load_reserved_operands atomic_operands register_text signed_text
    amount_text hex_text
instr_again pc here (instr.Lui rd imm) h w = rw (two_alone_again first_is upper_is rd imm h.0 (h.1, w) refl refl) refl
instr_again pc here (instr.Auipc rd imm) h w = rw (two_alone_again first_is upper_is rd imm h.0 (h.1, w) refl refl) refl
instr_again pc here (instr.Jal rd offset) h w =
    rw (two_alone_again first_is (jump_is pc here) rd offset h.0 h.1 refl refl) refl
instr_again pc here (instr.Jalr rd rs1 offset) h w =
    rw (three_again first_is immediate_is base_is (codes ")") rd offset rs1 h.0 h.2 h.1 refl refl refl) refl
instr_again pc here (instr.Branch op rs1 rs2 offset) h w =
    rw (three_alone_again first_is next_is (branch_is pc here) rs1 rs2 offset h.0 h.1 h.2 refl refl refl) refl
instr_again pc here (instr.Load op rd rs1 offset) h w =
    rw (three_again first_is immediate_is base_is (codes ")") rd offset rs1 h.0 h.2 h.1 refl refl refl) refl
instr_again pc here (instr.Store op rs2 rs1 offset) h w =
    rw (three_again first_is immediate_is base_is (codes ")") rs2 offset rs1 h.0 h.2 h.1 refl refl refl) refl
instr_again pc here (instr.Immediate op rd rs1 imm) h w =
    rw (three_alone_again first_is next_is immediate_is rd rs1 imm h.0 h.1 h.2 refl refl refl) refl
instr_again pc here (instr.Shift op rd rs1 amount) h w =
    rw (three_alone_again first_is next_is amount_is rd rs1 amount h.0 h.1 h.2 refl refl refl) refl
instr_again pc here (instr.Register op rd rs1 rs2) h w =
    rw (three_alone_again first_is next_is next_is rd rs1 rs2 h.0 h.1 h.2 refl refl refl) refl
instr_again pc here (instr.MulDiv op rd rs1 rs2) h w =
    rw (three_alone_again first_is next_is next_is rd rs1 rs2 h.0 h.1 h.2 refl refl refl) refl
instr_again pc here instr.Fence h w = rw (end_at_again []) refl
instr_again pc here instr.InstructionFence h w = rw (end_at_again []) refl
instr_again pc here instr.Ecall h w = rw (end_at_again []) refl
instr_again pc here instr.Ebreak h w = rw (end_at_again []) refl
instr_again pc here (instr.LoadReserved rd rs1 ordering) h w =
    rw (two_again first_is address_is (codes ")") rd rs1 h.0 h.1 refl refl) refl
instr_again pc here (instr.StoreConditional rd rs1 rs2 ordering) h w =
    rw (three_again first_is next_is address_is (codes ")") rd rs2 rs1 h.0 h.2 h.1 refl refl refl) refl
instr_again pc here (instr.Amo kind rd rs1 rs2 ordering) h w =
    rw (three_again first_is next_is address_is (codes ")") rd rs2 rs1 h.0 h.2 h.1 refl refl refl) refl
