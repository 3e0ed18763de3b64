-- No two rows have the same name: a search of the rows by name finds each row by its own.
use Rattle.std.proofs.Common.{◌≡◌, ℕ, Bool, true, false, ◌==◌, if◌then◌else◌, List, [], ◌∷◌, ◌++◌, length, Option, Some}
use Rattle.std.proofs.Common.{None, refl, subst, sym, ap, ◌∙◌, arith}
use Rattle.std.specs.{Prelude.IfSome, Prelude.IfNone, List.flat_map, List.position_or_len, Str.bytes_eq}
use Rattle.std.proofs.lemmas.List.{length-append}
use Rattle.rv_word.specs.declared.amo_kind.AmoKind.TheVariants as kinds
use Rattle.rv_instr.specs.{declared.instr.Ordering.Ordering}
use Rattle.rv_instr.specs.declared.instr.StoreOp.TheVariants.{Sb, Sh, Sw}
use Rattle.rv_instr.specs.declared.instr.ShiftOp.TheVariants.{Slli, Srli, Srai}
use Rattle.rv_instr.specs.declared.instr.BranchOp.TheVariants.{Beq, Bne, Blt, Bge, Bltu, Bgeu}
use Rattle.rv_instr.specs.declared.instr.LoadOp.TheVariants.{Lb, Lh, Lw, Lbu, Lhu}
use Rattle.rv_instr.specs.declared.instr.ImmediateOp.TheVariants.{Addi, Slti, Sltiu, Xori, Ori, Andi}
use Rattle.rv_instr.specs.declared.instr.RegisterOp.TheVariants.{Add, Sub, Sll, Slt, Sltu, Xor, Srl, Sra, Or, And}
use Rattle.rv_instr.specs.declared.instr.MulDivOp.TheVariants.{Mul, Mulh, Mulhsu, Mulhu, Div, Divu, Rem, Remu}
use Rattle.rv_text.specs.{declared.mnemonic.Mnemonic.Mnemonic, declared.mnemonic.AtomicOp.AtomicOp}
use Rattle.rv_text.specs.{declared.mnemonic.AtomicOp.TheVariants.LoadReserved}
use Rattle.rv_text.specs.{declared.mnemonic.AtomicOp.TheVariants.StoreConditional}
use Rattle.rv_text.specs.{declared.mnemonic.AtomicOp.TheVariants.Amo}
use Rattle.rv_text.specs.declared.mnemonic.Mnemonic.TheVariants.{Lui, Auipc, Jal, Jalr, Branch, Load, Store, Immediate}
use Rattle.rv_text.specs.declared.mnemonic.Mnemonic.TheVariants.{Shift, Register, MulDiv, Fence, InstructionFence, Ecall, Ebreak, Atomic}
use Rattle.rv_text.specs.Mnemonic.{mnemonic_name, atomic_name, ordering_name}
use Rattle.rv_text.specs.Reading.{IsPlain}

first_named : List ℕ → List Mnemonic → Option Mnemonic
first_named text [] = None
first_named text (m ∷ ms) = if bytes_eq (mnemonic_name m) text then Some m else first_named text ms

ordering_of : Bool → Bool → Ordering
ordering_of a r = record { aq = a; rl = r }

atomics : List AtomicOp
atomics = LoadReserved ∷ StoreConditional ∷ Amo kinds.Swap ∷ Amo kinds.Add ∷ Amo kinds.Xor ∷ Amo kinds.And
    ∷ Amo kinds.Or ∷ Amo kinds.Min ∷ Amo kinds.Max ∷ Amo kinds.Minu ∷ Amo kinds.Maxu ∷ []

rows : List Mnemonic
rows = Lui ∷ Auipc ∷ Jal ∷ Jalr ∷ Fence ∷ InstructionFence ∷ Ecall ∷ Ebreak
    ∷ Branch Beq ∷ Branch Bne ∷ Branch Blt ∷ Branch Bge ∷ Branch Bltu ∷ Branch Bgeu
    ∷ Load Lb ∷ Load Lh ∷ Load Lw ∷ Load Lbu ∷ Load Lhu
    ∷ Store Sb ∷ Store Sh ∷ Store Sw
    ∷ Immediate Addi ∷ Immediate Slti ∷ Immediate Sltiu ∷ Immediate Xori ∷ Immediate Ori ∷ Immediate Andi
    ∷ Shift Slli ∷ Shift Srli ∷ Shift Srai
    ∷ Register Add ∷ Register Sub ∷ Register Sll ∷ Register Slt ∷ Register Sltu ∷ Register Xor ∷ Register Srl
    ∷ Register Sra ∷ Register Or ∷ Register And
    ∷ MulDiv Mul ∷ MulDiv Mulh ∷ MulDiv Mulhsu ∷ MulDiv Mulhu ∷ MulDiv Div ∷ MulDiv Divu ∷ MulDiv Rem ∷ MulDiv Remu
    ∷ flat_map (λ op. Atomic op (ordering_of false false) ∷ Atomic op (ordering_of true false)
    ∷ Atomic op (ordering_of false true) ∷ Atomic op (ordering_of true true) ∷ []) atomics

-- each name stands first where its row does: every case is computed
found_atomic : (op : AtomicOp) (a r : Bool)
    → first_named (mnemonic_name (Atomic op (ordering_of a r))) rows ≡ Some (Atomic op (ordering_of a r))
unfolding first_named rows atomics ordering_of
found_atomic (Amo kinds.Swap) false false = refl
found_atomic _ false false = refl
found_atomic (Amo kinds.Swap) false true = refl
found_atomic _ false true = refl
found_atomic (Amo kinds.Swap) true false = refl
found_atomic _ true false = refl
found_atomic (Amo kinds.Swap) true true = refl
found_atomic _ true true = refl

found : (m : Mnemonic) → first_named (mnemonic_name m) rows ≡ Some m
unfolding first_named rows
found (Branch Beq) = refl
found (Load Lb) = refl
found (Store Sb) = refl
found (Immediate Addi) = refl
found (Shift Slli) = refl
found (Register Add) = refl
found (MulDiv Mul) = refl
found (Atomic op ordering) = unfold ordering_of in found_atomic op ordering.aq ordering.rl
found _ = refl

pub name_of-injective : (m n : Mnemonic) → mnemonic_name m ≡ mnemonic_name n → m ≡ n
name_of-injective m n e =
    let both : Some m ≡ Some n = sym (found m) ∙ ap (λ text. first_named text rows) e ∙ found n in
    cc

-- the row that a text was found to name is the only one
pub only_named : (text : List ℕ) (m : Mnemonic) → text ≡ mnemonic_name m → (n : Mnemonic) → text ≡ mnemonic_name n
    → Some m ≡ Some n
only_named text m is n e = ap Some (name_of-injective m n (sym is ∙ e))

-- the name of an atomic is what stands before the dot
dot_place : (op : AtomicOp) (rest : List ℕ)
    → position_or_len (λ b. b == 46) (atomic_name op ++ 46 ∷ rest) ≡ length (atomic_name op)
dot_place (Amo kinds.Swap) rest = refl
dot_place (Amo _) rest = refl
dot_place _ rest = refl

plain_from_no_dot : (m : Mnemonic) (text : List ℕ) → position_or_len (λ b. b == 46) text ≡ length text
    → text ≡ mnemonic_name m → IsPlain m
plain_from_no_dot (Atomic op ordering) text none e =
    let whole : position_or_len (λ b. b == 46) (mnemonic_name (Atomic op ordering))
    ≡ length (mnemonic_name (Atomic op ordering)) = rw (← e) none in
    absurd
    (omega (
      arith,
      whole,
      dot_place op (ordering_name ordering),
      length-append (atomic_name op) (46 ∷ ordering_name ordering),
    ))
plain_from_no_dot InstructionFence text none e =
    let whole = subst (λ name. position_or_len (λ b. b == 46) name ≡ length name) e none in
    absurd (omega (arith, whole))
plain_from_no_dot _ text none e = tt

-- what a search of the rows without a dot gives, where the text has none
pub only_plain : (text : List ℕ) (r : Option Mnemonic) → IfSome r (λ m. (text ≡ mnemonic_name m) × IsPlain m) →
    IfNone r ((m : Mnemonic) → IsPlain m → text ≡ mnemonic_name m → ⊥)
    → position_or_len (λ b. b == 46) text ≡ length text →
    (m : Mnemonic) → text ≡ mnemonic_name m → r ≡ Some m
only_plain text (Some m) is none place n e = only_named text m is.0 n e
only_plain text None is none place n e = absurd (none n (plain_from_no_dot n text place e) e)
