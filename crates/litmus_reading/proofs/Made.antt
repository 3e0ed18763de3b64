-- What a row makes of operands: those that its words spell tell the instruction.
use Rattle.std.proofs.Common.{◌≡◌, ℕ, ℤ, pos, List, Result, refl, sym, subst}
use Rattle.std.specs.Prelude.{IfOk}
use Rattle.rv_instr.specs.declared.instr.Instr.TheVariants as instr
use Rattle.rv_instr.specs.declared.instr.{ImmediateOp.ImmediateOp, LoadOp.LoadOp, MulDivOp.MulDivOp, Ordering.Ordering, RegisterOp.RegisterOp, ShiftOp.ShiftOp, StoreOp.StoreOp}
use Rattle.rv_text.specs.{declared.operands.Operands.Operands, Operands.instr_with}
use Rattle.rv_text.specs.declared.mnemonic.{Mnemonic.Mnemonic as Row}
use Rattle.rv_text.specs.declared.mnemonic.Mnemonic.TheVariants as row_of
use Rattle.rv_text.specs.declared.mnemonic.AtomicOp.{AtomicOp}
use Rattle.rv_text.specs.declared.mnemonic.AtomicOp.TheVariants as atomic
use Rattle.litmus_words.specs.Answered.{Gives}
use Rattle.litmus_words.specs.declared.refused.Stop.{Stop}
use Rattle.litmus_words.specs.declared.word.Token.{Token}
use Rattle.litmus_reading.specs.Instructions.{SpellsAmount, SpellsAtomic, SpellsImmediate, SpellsMemory, SpellsOperands, SpellsUpper, triple}
use Rattle.litmus_reading.proofs.Chains.{gives_so, ok_so}

-- that an answer makes of a row what these operands make of it
abbrev pub Makes : Row → Operands → Result Operands Stop → Type 0
Makes row operands result = Gives result (λ found. instr_with row found ≡ instr_with row operands)

of_same : (row other : Row) (operands : Operands) (result : Result Operands Stop) → row ≡ other
    → Makes other operands result → Makes row operands result
of_same row other operands result is made =
    subst (λ (r : Row). Makes r operands result) (sym is) made

spelled_of : (row other : Row) (text : List Token) (operands : Operands) → row ≡ other
    → SpellsOperands row text operands → SpellsOperands other text operands
spelled_of row other text operands is spells = subst (λ (r : Row). SpellsOperands r text operands) is spells

pub makes_load : (row : Row) (op : LoadOp) (text : List Token) (result : Result Operands Stop) → row ≡ row_of.Load op
    → ((rd : ℕ) (offset : ℤ) (base : ℕ) → SpellsMemory text rd offset base
    → Gives result (λ o. (o.rd ≡ rd) × (o.offset ≡ offset) × (o.rs1 ≡ base)))
    → (operands : Operands) → SpellsOperands row text operands → Makes row operands result
unfolding instr_with
makes_load row op text result is only operands spells =
    of_same row (row_of.Load op) operands result is
    (gives_so result _ _ (λ found same. (λ k. instr.Load op (same.0 k) (same.2 k) (same.1 k)))
    (only operands.rd operands.offset operands.rs1 (spelled_of row (row_of.Load op) text operands is spells)))

pub makes_store : (row : Row) (op : StoreOp) (text : List Token) (result : Result Operands Stop)
    → row ≡ row_of.Store op
    → ((rs2 : ℕ) (offset : ℤ) (base : ℕ) → SpellsMemory text rs2 offset base
    → Gives result (λ o. (o.rs2 ≡ rs2) × (o.offset ≡ offset) × (o.rs1 ≡ base)))
    → (operands : Operands) → SpellsOperands row text operands → Makes row operands result
unfolding instr_with
makes_store row op text result is only operands spells =
    of_same row (row_of.Store op) operands result is
    (gives_so result _ _ (λ found same. (λ k. instr.Store op (same.0 k) (same.2 k) (same.1 k)))
    (only operands.rs2 operands.offset operands.rs1 (spelled_of row (row_of.Store op) text operands is spells)))

pub makes_immediate : (row : Row) (op : ImmediateOp) (text : List Token) (result : Result Operands Stop)
    → row ≡ row_of.Immediate op
    → ((rd rs1 : ℕ) (imm : ℤ) → SpellsImmediate text rd rs1 imm
    → Gives result (λ o. (o.rd ≡ rd) × (o.rs1 ≡ rs1) × (o.offset ≡ imm)))
    → (operands : Operands) → SpellsOperands row text operands → Makes row operands result
unfolding instr_with
makes_immediate row op text result is only operands spells =
    of_same row (row_of.Immediate op) operands result is
    (gives_so result _ _ (λ found same. (λ k. instr.Immediate op (same.0 k) (same.1 k) (same.2 k)))
    (only operands.rd operands.rs1 operands.offset (spelled_of row (row_of.Immediate op) text operands is spells)))

pub makes_shift : (row : Row) (op : ShiftOp) (text : List Token) (result : Result Operands Stop)
    → row ≡ row_of.Shift op
    → ((rd rs1 amount : ℕ) → SpellsAmount text rd rs1 amount
    → Gives result (λ o. (o.rd ≡ rd) × (o.rs1 ≡ rs1) × (o.amount ≡ amount)))
    → (operands : Operands) → SpellsOperands row text operands → Makes row operands result
unfolding instr_with
makes_shift row op text result is only operands spells =
    of_same row (row_of.Shift op) operands result is
    (gives_so result _ _ (λ found same. (λ k. instr.Shift op (same.0 k) (same.1 k) (same.2 k)))
    (only operands.rd operands.rs1 operands.amount (spelled_of row (row_of.Shift op) text operands is spells)))

pub makes_register : (row : Row) (op : RegisterOp) (text : List Token) (result : Result Operands Stop)
    → row ≡ row_of.Register op
    → ((rd rs1 rs2 : ℕ) → text ≡ triple rd rs1 rs2
    → Gives result (λ o. (o.rd ≡ rd) × (o.rs1 ≡ rs1) × (o.rs2 ≡ rs2)))
    → (operands : Operands) → SpellsOperands row text operands → Makes row operands result
unfolding instr_with
makes_register row op text result is only operands spells =
    of_same row (row_of.Register op) operands result is
    (gives_so result _ _ (λ found same. (λ k. instr.Register op (same.0 k) (same.1 k) (same.2 k)))
    (only operands.rd operands.rs1 operands.rs2 (spelled_of row (row_of.Register op) text operands is spells)))

pub makes_muldiv : (row : Row) (op : MulDivOp) (text : List Token) (result : Result Operands Stop)
    → row ≡ row_of.MulDiv op
    → ((rd rs1 rs2 : ℕ) → text ≡ triple rd rs1 rs2
    → Gives result (λ o. (o.rd ≡ rd) × (o.rs1 ≡ rs1) × (o.rs2 ≡ rs2)))
    → (operands : Operands) → SpellsOperands row text operands → Makes row operands result
unfolding instr_with
makes_muldiv row op text result is only operands spells =
    of_same row (row_of.MulDiv op) operands result is
    (gives_so result _ _ (λ found same. (λ k. instr.MulDiv op (same.0 k) (same.1 k) (same.2 k)))
    (only operands.rd operands.rs1 operands.rs2 (spelled_of row (row_of.MulDiv op) text operands is spells)))

pub makes_upper : (row : Row) (text : List Token) (result : Result Operands Stop) → row ≡ row_of.Lui
    → ((rd upper : ℕ) → SpellsUpper text rd upper → Gives result (λ o. (o.rd ≡ rd) × (o.upper ≡ upper)))
    → (operands : Operands) → SpellsOperands row text operands → Makes row operands result
unfolding instr_with
makes_upper row text result is only operands spells =
    of_same row row_of.Lui operands result is
    (gives_so result _ _ (λ found same. (λ k. instr.Lui (same.0 k) (same.1 k)))
    (only operands.rd operands.upper (spelled_of row row_of.Lui text operands is spells)))

pub makes_atomic : (row : Row) (op : AtomicOp) (ordering : Ordering) (text : List Token)
    (result : Result Operands Stop) → row ≡ row_of.Atomic op ordering
    → ((ordering : Ordering) (operands : Operands) → SpellsOperands (row_of.Atomic op ordering) text operands
    → Makes (row_of.Atomic op ordering) operands result)
    → (operands : Operands) → SpellsOperands row text operands → Makes row operands result
makes_atomic row op ordering text result is only operands spells =
    of_same row (row_of.Atomic op ordering) operands result is
    (only ordering operands (spelled_of row (row_of.Atomic op ordering) text operands is spells))

pub makes_reserved : (op : AtomicOp) (ordering : Ordering) (text : List Token) (result : Result Operands Stop)
    → op ≡ atomic.LoadReserved
    → ((rd base : ℕ) → SpellsMemory text rd (pos 0) base → Gives result (λ o. (o.rd ≡ rd) × (o.rs1 ≡ base)))
    → (operands : Operands) → SpellsOperands (row_of.Atomic op ordering) text operands
    → Makes (row_of.Atomic op ordering) operands result
unfolding instr_with
makes_reserved op ordering text result is only operands spells =
    subst (λ (o : AtomicOp). Makes (row_of.Atomic o ordering) operands result) (sym is)
    (gives_so result _ _ (λ found same. (λ k. instr.LoadReserved (same.0 k) (same.1 k) ordering))
    (only operands.rd operands.rs1
    (subst (λ (o : AtomicOp). SpellsOperands (row_of.Atomic o ordering) text operands) is spells)))

other_so : (op : AtomicOp) (ordering : Ordering) (text : List Token) (operands : Operands)
    → (op ≡ atomic.LoadReserved → ⊥) → SpellsAtomic text operands.rd operands.rs2 operands.rs1
    → SpellsOperands (row_of.Atomic op ordering) text operands
other_so atomic.LoadReserved ordering text operands other spells = absurd (other refl)
other_so atomic.StoreConditional ordering text operands other spells = spells
other_so (atomic.Amo kind) ordering text operands other spells = spells

pub spelled_other : (op : AtomicOp) (ordering : Ordering) (text : List Token) (result : Result Operands Stop)
    → (op ≡ atomic.LoadReserved → ⊥) → IfOk result (λ o. SpellsAtomic text o.rd o.rs2 o.rs1)
    → IfOk result (SpellsOperands (row_of.Atomic op ordering) text)
spelled_other op ordering text result other spelled =
    ok_so result _ _ (λ o it. other_so op ordering text o other it) spelled

pub makes_other : (op : AtomicOp) (ordering : Ordering) (text : List Token) (result : Result Operands Stop)
    → (op ≡ atomic.LoadReserved → ⊥)
    → ((rd rs2 rs1 : ℕ) → SpellsAtomic text rd rs2 rs1
    → Gives result (λ o. (o.rd ≡ rd) × (o.rs2 ≡ rs2) × (o.rs1 ≡ rs1)))
    → (operands : Operands) → SpellsOperands (row_of.Atomic op ordering) text operands
    → Makes (row_of.Atomic op ordering) operands result
unfolding instr_with
makes_other atomic.LoadReserved ordering text result other only operands spells = absurd (other refl)
makes_other atomic.StoreConditional ordering text result other only operands spells =
    gives_so result _ _ (λ found same. (λ k. instr.StoreConditional (same.0 k) (same.2 k) (same.1 k) ordering))
    (only operands.rd operands.rs2 operands.rs1 spells)
makes_other (atomic.Amo kind) ordering text result other only operands spells =
    gives_so result _ _ (λ found same. (λ k. instr.Amo kind (same.0 k) (same.2 k) (same.1 k) ordering))
    (only operands.rd operands.rs2 operands.rs1 spells)
