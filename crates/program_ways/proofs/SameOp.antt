-- Where the derived comparison of two instructions is true they are one.
use Rattle.std.proofs.Common.{◌≡◌, ℕ, true, rules, refl, ap, inl, inr}
use Rattle.std.proofs.lemmas.Bool.{cases_Bool, false≢true}
use Rattle.rv_instr.specs.{declared.instr.Ordering.Ordering, declared.op.Op.Op, declared.op.Op.TheVariants.Known}
use Rattle.rv_instr.specs.{declared.op.Op.TheVariants.Illegal, declared.op.Op.TheVariants.NoWord}
use Rattle.rv_instr.specs.{declared.instr.Instr.Instr, contracts.op.OpPartialEq.TheImpl.eq-value as op_eq}
use Rattle.rv_instr.specs.{contracts.instr.InstrPartialEq.TheImpl.eq-value as instr_eq}
use Rattle.rv_instr.specs.declared.instr.Instr.TheVariants as instr
use Rattle.rv_word.specs.{declared.amo_kind.AmoKind.AmoKind, contracts.amo_kind.AmoKind.the_type}
use Rattle.rv_word.specs.{contracts.amo_kind.AmoKindPartialEq.TheImpl.eq-value as kind_eq}
use denote.Enum.Bare.{same_true}

kind_same : (a b : AmoKind) → kind_eq.it a b ≡ true → a ≡ b
kind_same a b e = same_true the_type (search rules) a b e

amo_same : (a : AmoKind) (b c d : ℕ) (g : Ordering) (u : AmoKind) (v w x : ℕ) (y : Ordering)
    → instr_eq.it (instr.Amo a b c d g) (instr.Amo u v w x y) ≡ true → instr.Amo a b c d g ≡ instr.Amo u v w x y
amo_same a b c d g u v w x y e = elim (cases_Bool (kind_eq.it a u)) [
  | inl t ↦ let same = kind_same a u t in search (rules, same)
  | inr f ↦ absurd (false≢true (rw f at e))
]

instr_same : (i j : Instr) → instr_eq.it i j ≡ true → i ≡ j
instr_same (instr.Lui a b) (instr.Lui u v) e = search rules
instr_same (instr.Auipc a b) (instr.Auipc u v) e = search rules
instr_same (instr.Jal a b) (instr.Jal u v) e = search rules
instr_same (instr.Jalr a b c) (instr.Jalr u v w) e = search rules
instr_same (instr.Branch a b c d) (instr.Branch u v w x) e = search rules
instr_same (instr.Load a b c d) (instr.Load u v w x) e = search rules
instr_same (instr.Store a b c d) (instr.Store u v w x) e = search rules
instr_same (instr.Immediate a b c d) (instr.Immediate u v w x) e = search rules
instr_same (instr.Shift a b c d) (instr.Shift u v w x) e = search rules
instr_same (instr.Register a b c d) (instr.Register u v w x) e = search rules
instr_same (instr.MulDiv a b c d) (instr.MulDiv u v w x) e = search rules
instr_same instr.Fence instr.Fence e = refl
instr_same instr.InstructionFence instr.InstructionFence e = refl
instr_same instr.Ecall instr.Ecall e = refl
instr_same instr.Ebreak instr.Ebreak e = refl
instr_same (instr.LoadReserved a b c) (instr.LoadReserved u v w) e = search rules
instr_same (instr.StoreConditional a b c d) (instr.StoreConditional u v w x) e = search rules
instr_same (instr.Amo a b c d g) (instr.Amo u v w x y) e = amo_same a b c d g u v w x y e
instr_same _ _ e = absurd (false≢true e)

pub op_same : (a b : Op) → op_eq.it a b ≡ true → a ≡ b
op_same (Known i) (Known j) e = ap Known (instr_same i j e)
op_same Illegal Illegal e = refl
op_same NoWord NoWord e = refl
op_same _ _ e = absurd (false≢true e)
