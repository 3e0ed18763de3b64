-- What each instruction computes from its operands, before memory is asked (RISC-V Unprivileged
-- ISA, chapters "RV32I", "M" and "A", in the manual's order). A word is a number below 2 ^ 32. Ends
-- and stops are this project's own choice.
use Rattle.std.specs.Prelude.{ℕ, ◌+◌, ◌-◌, ◌*◌, ◌%◌, ◌^◌, Bool, not, ◌==◌, nat_lt}
use Rattle.std.specs.Prelude.{if◌then◌else◌, ℤ, Option, Some, None, int_lt}
use Rattle.std.specs.Int.{cast_unsigned, w32}
use Rattle.rv_word.specs.Word.{signed, sum_of, difference_of, left_shift_of, right_shift_of}
use Rattle.rv_word.specs.Word.{signed_right_shift_of, signed_less_of, less_of, exclusive_or_of}
use Rattle.rv_word.specs.Word.{or_of, and_of, product_of, signed_high_product_of}
use Rattle.rv_word.specs.Word.{mixed_high_product_of, high_product_of, signed_quotient_of}
use Rattle.rv_word.specs.Word.{quotient_of, signed_remainder_of, remainder_of}
use Rattle.rv_instr.specs.{declared.op.Op.TheVariants.Illegal, declared.instr.BranchOp.BranchOp}
use Rattle.rv_instr.specs.{declared.instr.ImmediateOp.ImmediateOp, declared.instr.ShiftOp.ShiftOp}
use Rattle.rv_instr.specs.{declared.instr.ShiftOp.TheVariants.Slli}
use Rattle.rv_instr.specs.{declared.instr.ShiftOp.TheVariants.Srli}
use Rattle.rv_instr.specs.{declared.instr.ShiftOp.TheVariants.Srai}
use Rattle.rv_instr.specs.{declared.instr.RegisterOp.RegisterOp, declared.instr.MulDivOp.MulDivOp}
use Rattle.rv_instr.specs.declared.instr.Instr.TheVariants as instr
use Rattle.rv_instr.specs.declared.instr.BranchOp.TheVariants.{Beq, Bne, Blt, Bge, Bltu, Bgeu}
use Rattle.rv_instr.specs.declared.instr.ImmediateOp.TheVariants.{Addi, Slti, Sltiu, Xori, Ori}
use Rattle.rv_instr.specs.declared.instr.ImmediateOp.TheVariants.{Andi}
use Rattle.rv_instr.specs.declared.instr.RegisterOp.TheVariants.{Add, Sub, Sll, Slt, Sltu, Xor}
use Rattle.rv_instr.specs.declared.instr.RegisterOp.TheVariants.{Srl, Sra, Or, And}
use Rattle.rv_instr.specs.declared.instr.MulDivOp.TheVariants.{Mul, Mulh, Mulhsu, Mulhu, Div, Divu}
use Rattle.rv_instr.specs.declared.instr.MulDivOp.TheVariants.{Rem, Remu}
use Rattle.smt_model.specs.Words.{Op, Known, NoWord, Instr, Next, Pc, Ended, Stopped}
use Rattle.smt_model.specs.Kinds.{store_size}

-- What an instruction computes: a number for its register, what comes next, the address that it
-- touches, the number that it hands to memory, and the byte that it puts out. Its kind says which
-- of these count; the others are 0.
pub record Computed : Type 0 where
  pub value : ℕ
  pub next : Next
  pub addr : ℕ
  pub datum : ℕ
  pub out : Option ℕ

-- The pc of the instruction behind this one.
abbrev pub next_pc : ℕ → ℕ
next_pc pc = (pc + 4) % 2 ^ 32

-- An immediate as the word that it is extended to.
abbrev pub extended : ℤ → ℕ
extended immediate = cast_unsigned w32 immediate

-- The cases of `Computed`.

abbrev pub just_next : Next → Computed
just_next next = record { value = 0; next = next; addr = 0; datum = 0; out = None }

abbrev pub gives : ℕ → ℕ → Computed
gives pc value = record (just_next (Pc (next_pc pc))) { value = value }

abbrev pub touches : ℕ → ℕ → ℕ → Computed
touches pc addr datum = record (just_next (Pc (next_pc pc))) { addr = addr; datum = datum }

-- Cause 0: a jump to an address that isn't a multiple of 4 stops at the jump.
abbrev pub jump_to : ℕ → Next
jump_to target = if target % 4 == 0 then Pc target else Stopped 0

abbrev pub jump : ℕ → ℕ → Computed
jump pc target = record (just_next (jump_to target)) { value = next_pc pc }

-- BEQ, BNE, BLT, BGE, BLTU, BGEU
abbrev pub is_taken : BranchOp → ℕ → ℕ → Bool
is_taken Beq a b = a == b
is_taken Bne a b = not (a == b)
is_taken Blt a b = int_lt (signed a) (signed b)
is_taken Bge a b = not (int_lt (signed a) (signed b))
is_taken Bltu a b = nat_lt a b
is_taken Bgeu a b = not (nat_lt a b)

-- ADDI, SLTI, SLTIU, XORI, ORI, ANDI
abbrev pub immediate_value : ImmediateOp → ℕ → ℕ → ℕ
immediate_value Addi a b = sum_of a b
immediate_value Slti a b = signed_less_of a b
immediate_value Sltiu a b = less_of a b
immediate_value Xori a b = exclusive_or_of a b
immediate_value Ori a b = or_of a b
immediate_value Andi a b = and_of a b

-- SLLI, SRLI, SRAI
abbrev pub shift_value : ShiftOp → ℕ → ℕ → ℕ
shift_value Slli a b = left_shift_of a b
shift_value Srli a b = right_shift_of a b
shift_value Srai a b = signed_right_shift_of a b

-- ADD, SUB, SLL, SLT, SLTU, XOR, SRL, SRA, OR, AND
abbrev pub register_value : RegisterOp → ℕ → ℕ → ℕ
register_value Add a b = sum_of a b
register_value Sub a b = difference_of a b
register_value Sll a b = left_shift_of a b
register_value Slt a b = signed_less_of a b
register_value Sltu a b = less_of a b
register_value Xor a b = exclusive_or_of a b
register_value Srl a b = right_shift_of a b
register_value Sra a b = signed_right_shift_of a b
register_value Or a b = or_of a b
register_value And a b = and_of a b

-- MUL, MULH, MULHSU, MULHU, DIV, DIVU, REM, REMU
abbrev pub muldiv_value : MulDivOp → ℕ → ℕ → ℕ
muldiv_value Mul a b = product_of a b
muldiv_value Mulh a b = signed_high_product_of a b
muldiv_value Mulhsu a b = mixed_high_product_of a b
muldiv_value Mulhu a b = high_product_of a b
muldiv_value Div a b = signed_quotient_of a b
muldiv_value Divu a b = quotient_of a b
muldiv_value Rem a b = signed_remainder_of a b
muldiv_value Remu a b = remainder_of a b

-- ECALL, with the number of the call and its argument: 93 ends the hart with the argument, 1 puts
-- its low byte out, and any other stops the hart. [this project's own choice]
abbrev pub call : ℕ → ℕ → ℕ → Computed
call pc number argument =
    if number == 93 then just_next (Ended argument)
    else (if number == 1
    then record (just_next (Pc (next_pc pc))) { out = Some (argument % 2 ^ 8) }
    else just_next (Stopped 8))

-- An instruction at a pc, with the numbers of its first and its second source; 0 where it has none.
unfoldable pub computed_of : Instr → ℕ → ℕ → ℕ → Computed
computed_of (instr.Lui rd imm) pc a b = gives pc imm
computed_of (instr.Auipc rd imm) pc a b = gives pc (sum_of pc imm)
computed_of (instr.Jal rd offset) pc a b = jump pc (sum_of pc (extended offset))
computed_of (instr.Jalr rd rs1 offset) pc a b =
    let target = sum_of a (extended offset) in jump pc (target - target % 2)
computed_of (instr.Branch op rs1 rs2 offset) pc a b =
    just_next (if is_taken op a b then jump_to (sum_of pc (extended offset)) else Pc (next_pc pc))
computed_of (instr.Load op rd rs1 offset) pc a b = touches pc (sum_of a (extended offset)) 0
computed_of (instr.Store op rs2 rs1 offset) pc a b =
    touches pc (sum_of a (extended offset)) (b % 2 ^ (8 * store_size op))
computed_of (instr.Immediate op rd rs1 imm) pc a b = gives pc (immediate_value op a (extended imm))
computed_of (instr.Shift op rd rs1 amount) pc a b = gives pc (shift_value op a amount)
computed_of (instr.Register op rd rs1 rs2) pc a b = gives pc (register_value op a b)
computed_of (instr.MulDiv op rd rs1 rs2) pc a b = gives pc (muldiv_value op a b)
computed_of instr.Fence pc a b = just_next (Pc (next_pc pc))
computed_of instr.InstructionFence pc a b = just_next (Pc (next_pc pc))
computed_of instr.Ecall pc a b = call pc a b
computed_of instr.Ebreak pc a b = just_next (Stopped 3)
computed_of (instr.LoadReserved rd rs1 ordering) pc a b = touches pc a 0
computed_of (instr.StoreConditional rd rs1 rs2 ordering) pc a b = touches pc a b
computed_of (instr.Amo kind rd rs1 rs2 ordering) pc a b = touches pc a b

-- What is computed of what was found at the pc. Cause 1: there is no word there. Cause 2: the word is no
-- instruction.
unfoldable pub exec : Op → ℕ → ℕ → ℕ → Computed
exec (Known i) pc a b = computed_of i pc a b
exec Illegal pc a b = just_next (Stopped 2)
exec NoWord pc a b = just_next (Stopped 1)
