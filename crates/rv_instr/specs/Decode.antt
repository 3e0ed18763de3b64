use Rattle.std.specs.Prelude.{ℕ, ◌==◌, if◌then◌else◌, Option, Some, None, option_and_then}
use Rattle.rv_word.specs.declared.amo_kind.AmoKind.{AmoKind}
use Rattle.rv_word.specs.declared.amo_kind.AmoKind.TheVariants as amo
use Rattle.rv_instr.specs.{declared.instr.BranchOp.BranchOp, declared.instr.LoadOp.LoadOp}
use Rattle.rv_instr.specs.{declared.instr.StoreOp.StoreOp, declared.instr.StoreOp.TheVariants.Sb}
use Rattle.rv_instr.specs.{declared.instr.StoreOp.TheVariants.Sh}
use Rattle.rv_instr.specs.{declared.instr.StoreOp.TheVariants.Sw}
use Rattle.rv_instr.specs.{declared.instr.ImmediateOp.ImmediateOp, declared.instr.ShiftOp.ShiftOp}
use Rattle.rv_instr.specs.{declared.instr.ShiftOp.TheVariants.Slli}
use Rattle.rv_instr.specs.{declared.instr.ShiftOp.TheVariants.Srli}
use Rattle.rv_instr.specs.{declared.instr.ShiftOp.TheVariants.Srai}
use Rattle.rv_instr.specs.{declared.instr.RegisterOp.RegisterOp, declared.instr.MulDivOp.MulDivOp}
use Rattle.rv_instr.specs.{declared.instr.Instr.Instr, declared.op.Op.Op}
use Rattle.rv_instr.specs.{declared.op.Op.TheVariants.Known, declared.op.Op.TheVariants.Illegal}
use Rattle.rv_instr.specs.{declared.op.Op.TheVariants.NoWord}
use Rattle.rv_instr.specs.declared.instr.BranchOp.TheVariants.{Beq, Bne, Blt, Bge, Bltu, Bgeu}
use Rattle.rv_instr.specs.declared.instr.LoadOp.TheVariants.{Lb, Lh, Lw, Lbu, Lhu}
use Rattle.rv_instr.specs.declared.instr.ImmediateOp.TheVariants.{Addi, Slti, Sltiu, Xori, Ori}
use Rattle.rv_instr.specs.declared.instr.ImmediateOp.TheVariants.{Andi}
use Rattle.rv_instr.specs.declared.instr.RegisterOp.TheVariants.{Add, Sub, Sll, Slt, Sltu, Xor}
use Rattle.rv_instr.specs.declared.instr.RegisterOp.TheVariants.{Srl, Sra, Or, And}
use Rattle.rv_instr.specs.declared.instr.MulDivOp.TheVariants.{Mul, Mulh, Mulhsu, Mulhu, Div, Divu}
use Rattle.rv_instr.specs.declared.instr.MulDivOp.TheVariants.{Rem, Remu}
use Rattle.rv_instr.specs.declared.instr.Instr.TheVariants.{Lui, Auipc, Jal, Jalr, Branch, Load}
use Rattle.rv_instr.specs.declared.instr.Instr.TheVariants.{Store, Immediate, Shift, Register}
use Rattle.rv_instr.specs.declared.instr.Instr.TheVariants.{MulDiv, Fence, InstructionFence, Ecall, Ebreak}
use Rattle.rv_instr.specs.declared.instr.Instr.TheVariants.{LoadReserved, StoreConditional, Amo}
use Rattle.rv_instr.specs.Fields.{opcode_at, rd_at, funct3_at, rs1_at, rs2_at, funct7_at}
use Rattle.rv_instr.specs.Fields.{funct5_at, ordering_at, imm_i, imm_s, imm_b, imm_u, imm_j}

-- Which instruction a word is, found as a reader of the manual finds it: by the opcode, then by the
-- funct fields (RISC-V Unprivileged ISA, chapter "RV32/64G Instruction Set Listings").

infixl 10 ◌>>=◌
abbrev pub ◌>>=◌ : {A B : Type 0} → Option A → (A → Option B) → Option B
o >>= f = option_and_then f o

-- the operation of each form, by its funct fields

unfoldable pub branch_op : ℕ → Option BranchOp
branch_op funct3 =
    if funct3 == 0b000 then Some Beq
    else if funct3 == 0b001 then Some Bne
    else if funct3 == 0b100 then Some Blt
    else if funct3 == 0b101 then Some Bge
    else if funct3 == 0b110 then Some Bltu
    else if funct3 == 0b111 then Some Bgeu
    else None

unfoldable pub load_op : ℕ → Option LoadOp
load_op funct3 =
    if funct3 == 0b000 then Some Lb
    else if funct3 == 0b001 then Some Lh
    else if funct3 == 0b010 then Some Lw
    else if funct3 == 0b100 then Some Lbu
    else if funct3 == 0b101 then Some Lhu
    else None

unfoldable pub store_op : ℕ → Option StoreOp
store_op funct3 =
    if funct3 == 0b000 then Some Sb
    else if funct3 == 0b001 then Some Sh
    else if funct3 == 0b010 then Some Sw
    else None

unfoldable pub immediate_op : ℕ → Option ImmediateOp
immediate_op funct3 =
    if funct3 == 0b000 then Some Addi
    else if funct3 == 0b010 then Some Slti
    else if funct3 == 0b011 then Some Sltiu
    else if funct3 == 0b100 then Some Xori
    else if funct3 == 0b110 then Some Ori
    else if funct3 == 0b111 then Some Andi
    else None

unfoldable pub shift_op : ℕ → ℕ → Option ShiftOp
shift_op funct7 funct3 =
    if funct7 == 0b0000000 then (
    if funct3 == 0b001 then Some Slli
    else if funct3 == 0b101 then Some Srli
    else None)
    else if funct7 == 0b0100000 then (if funct3 == 0b101 then Some Srai else None)
    else None

unfoldable pub register_op : ℕ → ℕ → Option RegisterOp
register_op funct7 funct3 =
    if funct7 == 0b0000000 then (
    if funct3 == 0b000 then Some Add
    else if funct3 == 0b001 then Some Sll
    else if funct3 == 0b010 then Some Slt
    else if funct3 == 0b011 then Some Sltu
    else if funct3 == 0b100 then Some Xor
    else if funct3 == 0b101 then Some Srl
    else if funct3 == 0b110 then Some Or
    else if funct3 == 0b111 then Some And
    else None)
    else if funct7 == 0b0100000 then (
    if funct3 == 0b000 then Some Sub
    else if funct3 == 0b101 then Some Sra
    else None)
    else None

unfoldable pub muldiv_op : ℕ → Option MulDivOp
muldiv_op funct3 =
    if funct3 == 0b000 then Some Mul
    else if funct3 == 0b001 then Some Mulh
    else if funct3 == 0b010 then Some Mulhsu
    else if funct3 == 0b011 then Some Mulhu
    else if funct3 == 0b100 then Some Div
    else if funct3 == 0b101 then Some Divu
    else if funct3 == 0b110 then Some Rem
    else if funct3 == 0b111 then Some Remu
    else None

unfoldable pub amo_kind : ℕ → Option AmoKind
amo_kind funct5 =
    if funct5 == 0b00000 then Some amo.Add
    else if funct5 == 0b00001 then Some amo.Swap
    else if funct5 == 0b00100 then Some amo.Xor
    else if funct5 == 0b01000 then Some amo.Or
    else if funct5 == 0b01100 then Some amo.And
    else if funct5 == 0b10000 then Some amo.Min
    else if funct5 == 0b10100 then Some amo.Max
    else if funct5 == 0b11000 then Some amo.Minu
    else if funct5 == 0b11100 then Some amo.Maxu
    else None

-- the instruction of each opcode

unfoldable pub jalr_of : ℕ → Option Instr
jalr_of word =
    if funct3_at word == 0b000 then Some (Jalr (rd_at word) (rs1_at word) (imm_i word)) else None

unfoldable pub branch_of : ℕ → Option Instr
branch_of word = do
  op ← branch_op (funct3_at word)
  Some (Branch op (rs1_at word) (rs2_at word) (imm_b word))

unfoldable pub load_of : ℕ → Option Instr
load_of word = do
  op ← load_op (funct3_at word)
  Some (Load op (rd_at word) (rs1_at word) (imm_i word))

unfoldable pub store_of : ℕ → Option Instr
store_of word = do
  op ← store_op (funct3_at word)
  Some (Store op (rs2_at word) (rs1_at word) (imm_s word))

unfoldable pub shift_of : ℕ → Option Instr
shift_of word = do
  op ← shift_op (funct7_at word) (funct3_at word)
  Some (Shift op (rd_at word) (rs1_at word) (rs2_at word))

unfoldable pub immediate_of : ℕ → Option Instr
immediate_of word =
    if funct3_at word == 0b001 then shift_of word
    else if funct3_at word == 0b101 then shift_of word
    else (do
      op ← immediate_op (funct3_at word)
      Some (Immediate op (rd_at word) (rs1_at word) (imm_i word)))

unfoldable pub muldiv_of : ℕ → Option Instr
muldiv_of word = do
  op ← muldiv_op (funct3_at word)
  Some (MulDiv op (rd_at word) (rs1_at word) (rs2_at word))

unfoldable pub register_of : ℕ → Option Instr
register_of word =
    if funct7_at word == 0b0000001 then muldiv_of word
    else (do
      op ← register_op (funct7_at word) (funct3_at word)
      Some (Register op (rd_at word) (rs1_at word) (rs2_at word)))

unfoldable pub fence_of : ℕ → Option Instr
fence_of word =
    if funct3_at word == 0b000 then Some Fence
    else if funct3_at word == 0b001 then Some InstructionFence
    else None

unfoldable pub system_of : ℕ → Option Instr
system_of word =
    if word == 0x00000073 then Some Ecall
    else if word == 0x00100073 then Some Ebreak
    else None

unfoldable pub load_reserved_of : ℕ → Option Instr
load_reserved_of word =
    if rs2_at word == 0 then Some (LoadReserved (rd_at word) (rs1_at word) (ordering_at word))
    else None

unfoldable pub store_conditional_of : ℕ → Option Instr
store_conditional_of word =
    Some (StoreConditional (rd_at word) (rs1_at word) (rs2_at word) (ordering_at word))

unfoldable pub amo_of : ℕ → Option Instr
amo_of word = do
  kind ← amo_kind (funct5_at word)
  Some (Amo kind (rd_at word) (rs1_at word) (rs2_at word) (ordering_at word))

unfoldable pub atomic_of : ℕ → Option Instr
atomic_of word =
    if funct3_at word == 0b010 then (
    if funct5_at word == 0b00010 then load_reserved_of word
    else if funct5_at word == 0b00011 then store_conditional_of word
    else amo_of word)
    else None

-- the instruction that a word spells, or none
unfoldable pub decoded : ℕ → Option Instr
decoded word =
    if opcode_at word == 0b0110111 then Some (Lui (rd_at word) (imm_u word))
    else if opcode_at word == 0b0010111 then Some (Auipc (rd_at word) (imm_u word))
    else if opcode_at word == 0b1101111 then Some (Jal (rd_at word) (imm_j word))
    else if opcode_at word == 0b1100111 then jalr_of word
    else if opcode_at word == 0b1100011 then branch_of word
    else if opcode_at word == 0b0000011 then load_of word
    else if opcode_at word == 0b0100011 then store_of word
    else if opcode_at word == 0b0010011 then immediate_of word
    else if opcode_at word == 0b0110011 then register_of word
    else if opcode_at word == 0b0001111 then fence_of word
    else if opcode_at word == 0b1110011 then system_of word
    else if opcode_at word == 0b0101111 then atomic_of word
    else None

-- what a word is: an instruction, or illegal
unfoldable pub op_of_instr : Option Instr → Op
op_of_instr (Some instr) = Known instr
op_of_instr None = Illegal

-- what is found where memory holds this word, or no whole word
unfoldable pub op_of_word : Option ℕ → Op
op_of_word (Some word) = op_of_instr (decoded word)
op_of_word None = NoWord
