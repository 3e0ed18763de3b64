use Rattle.std.specs.Prelude.{◌≡◌, ℕ, Option, Some, IfSome, ◌<◌, ◌%◌, ◌^◌, ◌-◌, unsigned_abs, ℤ}
use Rattle.std.specs.Prelude.{pos, neg_ℤ, ◌≤ℤ◌, ◌<ℤ◌}
use Rattle.rv_word.specs.declared.amo_kind.AmoKind.{AmoKind}
use Rattle.rv_word.specs.declared.amo_kind.AmoKind.TheVariants as amo
use Rattle.rv_instr.specs.{declared.instr.BranchOp.BranchOp, declared.instr.LoadOp.LoadOp}
use Rattle.rv_instr.specs.{declared.instr.StoreOp.StoreOp, declared.instr.StoreOp.TheVariants.Sb}
use Rattle.rv_instr.specs.{declared.instr.StoreOp.TheVariants.Sh}
use Rattle.rv_instr.specs.{declared.instr.StoreOp.TheVariants.Sw}
use Rattle.rv_instr.specs.{declared.instr.ImmediateOp.ImmediateOp, declared.instr.ShiftOp.ShiftOp}
use Rattle.rv_instr.specs.{declared.instr.ShiftOp.TheVariants.Slli}
use Rattle.rv_instr.specs.{declared.instr.ShiftOp.TheVariants.Srli}
use Rattle.rv_instr.specs.{declared.instr.ShiftOp.TheVariants.Srai}
use Rattle.rv_instr.specs.{declared.instr.RegisterOp.RegisterOp, declared.instr.MulDivOp.MulDivOp}
use Rattle.rv_instr.specs.{declared.instr.Instr.Instr, declared.op.Op.Op}
use Rattle.rv_instr.specs.{declared.op.Op.TheVariants.Known, declared.op.Op.TheVariants.Illegal}
use Rattle.rv_instr.specs.{declared.op.Op.TheVariants.NoWord}
use Rattle.rv_instr.specs.declared.instr.BranchOp.TheVariants.{Beq, Bne, Blt, Bge, Bltu, Bgeu}
use Rattle.rv_instr.specs.declared.instr.LoadOp.TheVariants.{Lb, Lh, Lw, Lbu, Lhu}
use Rattle.rv_instr.specs.declared.instr.ImmediateOp.TheVariants.{Addi, Slti, Sltiu, Xori, Ori}
use Rattle.rv_instr.specs.declared.instr.ImmediateOp.TheVariants.{Andi}
use Rattle.rv_instr.specs.declared.instr.RegisterOp.TheVariants.{Add, Sub, Sll, Slt, Sltu, Xor}
use Rattle.rv_instr.specs.declared.instr.RegisterOp.TheVariants.{Srl, Sra, Or, And}
use Rattle.rv_instr.specs.declared.instr.MulDivOp.TheVariants.{Mul, Mulh, Mulhsu, Mulhu, Div, Divu}
use Rattle.rv_instr.specs.declared.instr.MulDivOp.TheVariants.{Rem, Remu}
use Rattle.rv_instr.specs.declared.instr.Instr.TheVariants.{Lui, Auipc, Jal, Jalr, Branch, Load}
use Rattle.rv_instr.specs.declared.instr.Instr.TheVariants.{Store, Immediate, Shift, Register}
use Rattle.rv_instr.specs.declared.instr.Instr.TheVariants.{MulDiv, Fence, InstructionFence, Ecall, Ebreak}
use Rattle.rv_instr.specs.declared.instr.Instr.TheVariants.{LoadReserved, StoreConditional, Amo}
use Rattle.rv_instr.specs.Fields.{opcode_at, rd_at, funct3_at, rs1_at, rs2_at, funct7_at}
use Rattle.rv_instr.specs.Fields.{funct5_at, ordering_at, imm_i, imm_s, imm_b, imm_u, imm_j}

-- The instruction table (RISC-V Unprivileged ISA, chapter "RV32/64G Instruction Set Listings"):
-- which word spells which instruction. Each form has one equation, and each operation of a form its
-- row of funct fields.

-- funct3 of each row of a form

abbrev pub branch_row : BranchOp → ℕ
branch_row Beq = 0b000
branch_row Bne = 0b001
branch_row Blt = 0b100
branch_row Bge = 0b101
branch_row Bltu = 0b110
branch_row Bgeu = 0b111

abbrev pub load_row : LoadOp → ℕ
load_row Lb = 0b000
load_row Lh = 0b001
load_row Lw = 0b010
load_row Lbu = 0b100
load_row Lhu = 0b101

abbrev pub store_row : StoreOp → ℕ
store_row Sb = 0b000
store_row Sh = 0b001
store_row Sw = 0b010

abbrev pub immediate_row : ImmediateOp → ℕ
immediate_row Addi = 0b000
immediate_row Slti = 0b010
immediate_row Sltiu = 0b011
immediate_row Xori = 0b100
immediate_row Ori = 0b110
immediate_row Andi = 0b111

abbrev pub muldiv_row : MulDivOp → ℕ
muldiv_row Mul = 0b000
muldiv_row Mulh = 0b001
muldiv_row Mulhsu = 0b010
muldiv_row Mulhu = 0b011
muldiv_row Div = 0b100
muldiv_row Divu = 0b101
muldiv_row Rem = 0b110
muldiv_row Remu = 0b111

-- funct7 and funct3 of each row of a form

abbrev pub shift_row : ShiftOp → ℕ × ℕ
shift_row Slli = (0b0000000, 0b001)
shift_row Srli = (0b0000000, 0b101)
shift_row Srai = (0b0100000, 0b101)

abbrev pub register_row : RegisterOp → ℕ × ℕ
register_row Add = (0b0000000, 0b000)
register_row Sub = (0b0100000, 0b000)
register_row Sll = (0b0000000, 0b001)
register_row Slt = (0b0000000, 0b010)
register_row Sltu = (0b0000000, 0b011)
register_row Xor = (0b0000000, 0b100)
register_row Srl = (0b0000000, 0b101)
register_row Sra = (0b0100000, 0b101)
register_row Or = (0b0000000, 0b110)
register_row And = (0b0000000, 0b111)

-- funct5 of each atomic memory operation
abbrev pub amo_row : AmoKind → ℕ
amo_row amo.Add = 0b00000
amo_row amo.Swap = 0b00001
amo_row amo.Xor = 0b00100
amo_row amo.Or = 0b01000
amo_row amo.And = 0b01100
amo_row amo.Min = 0b10000
amo_row amo.Max = 0b10100
amo_row amo.Minu = 0b11000
amo_row amo.Maxu = 0b11100

-- the word spells the instruction: its fixed bits are the row's, and its fields are the
-- instruction's
abbrev pub Spells : ℕ → Instr → Type 0
Spells word (Lui rd imm) = (opcode_at word ≡ 0b0110111) × (rd ≡ rd_at word) × (imm ≡ imm_u word)
Spells word (Auipc rd imm) = (opcode_at word ≡ 0b0010111) × (rd ≡ rd_at word) × (imm ≡ imm_u word)
Spells word (Jal rd offset) =
    (opcode_at word ≡ 0b1101111) × (rd ≡ rd_at word) × (offset ≡ imm_j word)
Spells word (Jalr rd rs1 offset) =
    (opcode_at word ≡ 0b1100111) × (funct3_at word ≡ 0b000)
    × (rd ≡ rd_at word) × (rs1 ≡ rs1_at word) × (offset ≡ imm_i word)
Spells word (Branch op rs1 rs2 offset) =
    (opcode_at word ≡ 0b1100011) × (funct3_at word ≡ branch_row op)
    × (rs1 ≡ rs1_at word) × (rs2 ≡ rs2_at word) × (offset ≡ imm_b word)
Spells word (Load op rd rs1 offset) =
    (opcode_at word ≡ 0b0000011) × (funct3_at word ≡ load_row op)
    × (rd ≡ rd_at word) × (rs1 ≡ rs1_at word) × (offset ≡ imm_i word)
Spells word (Store op rs2 rs1 offset) =
    (opcode_at word ≡ 0b0100011) × (funct3_at word ≡ store_row op)
    × (rs2 ≡ rs2_at word) × (rs1 ≡ rs1_at word) × (offset ≡ imm_s word)
Spells word (Immediate op rd rs1 imm) =
    (opcode_at word ≡ 0b0010011) × (funct3_at word ≡ immediate_row op)
    × (rd ≡ rd_at word) × (rs1 ≡ rs1_at word) × (imm ≡ imm_i word)
Spells word (Shift op rd rs1 amount) =
    (opcode_at word ≡ 0b0010011) × (funct7_at word ≡ (shift_row op).0)
    × (funct3_at word ≡ (shift_row op).1)
    × (rd ≡ rd_at word) × (rs1 ≡ rs1_at word) × (amount ≡ rs2_at word)
Spells word (Register op rd rs1 rs2) =
    (opcode_at word ≡ 0b0110011) × (funct7_at word ≡ (register_row op).0)
    × (funct3_at word ≡ (register_row op).1)
    × (rd ≡ rd_at word) × (rs1 ≡ rs1_at word) × (rs2 ≡ rs2_at word)
Spells word (MulDiv op rd rs1 rs2) =
    (opcode_at word ≡ 0b0110011) × (funct7_at word ≡ 0b0000001) × (funct3_at word ≡ muldiv_row op)
    × (rd ≡ rd_at word) × (rs1 ≡ rs1_at word) × (rs2 ≡ rs2_at word)
Spells word Fence =
    (opcode_at word ≡ 0b0001111) × (funct3_at word ≡ 0b000)  -- the other fields are free
Spells word InstructionFence =
    (opcode_at word ≡ 0b0001111) × (funct3_at word ≡ 0b001)  -- here too
Spells word Ecall = word ≡ 0x00000073
Spells word Ebreak = word ≡ 0x00100073
Spells word (LoadReserved rd rs1 ordering) =
    (opcode_at word ≡ 0b0101111) × (funct3_at word ≡ 0b010) × (funct5_at word ≡ 0b00010)
    × (rs2_at word ≡ 0)
    × (rd ≡ rd_at word) × (rs1 ≡ rs1_at word) × (ordering ≡ ordering_at word)
Spells word (StoreConditional rd rs1 rs2 ordering) =
    (opcode_at word ≡ 0b0101111) × (funct3_at word ≡ 0b010) × (funct5_at word ≡ 0b00011)
    × (rd ≡ rd_at word) × (rs1 ≡ rs1_at word) × (rs2 ≡ rs2_at word) × (ordering ≡ ordering_at word)
Spells word (Amo kind rd rs1 rs2 ordering) =
    (opcode_at word ≡ 0b0101111) × (funct3_at word ≡ 0b010) × (funct5_at word ≡ amo_row kind)
    × (rd ≡ rd_at word) × (rs1 ≡ rs1_at word) × (rs2 ≡ rs2_at word) × (ordering ≡ ordering_at word)

-- the number has a spelling of `len` bits in two's complement
abbrev pub IsSigned : ℕ → ℤ → Type 0
IsSigned len number = (neg_ℤ (pos (2 ^ (len - 1))) ≤ℤ number) × (number <ℤ pos (2 ^ (len - 1)))

-- a distance to jump: `len` bits, of which the lowest is 0
abbrev pub IsDistance : ℕ → ℤ → Type 0
IsDistance len number = IsSigned len number × (unsigned_abs number % 2 ≡ 0)

-- a word whose low twelve bits are 0
abbrev pub IsUpper : ℕ → Type 0
IsUpper imm = (imm < 2 ^ 32) × (imm % 2 ^ 12 ≡ 0)

-- each field of the instruction fits in the bits that its form has for it
abbrev pub IsInstructionInRange : Instr → Type 0
IsInstructionInRange (Lui rd imm) = (rd < 32) × IsUpper imm
IsInstructionInRange (Auipc rd imm) = (rd < 32) × IsUpper imm
IsInstructionInRange (Jal rd offset) = (rd < 32) × IsDistance 21 offset
IsInstructionInRange (Jalr rd rs1 offset) = (rd < 32) × (rs1 < 32) × IsSigned 12 offset
IsInstructionInRange (Branch _ rs1 rs2 offset) = (rs1 < 32) × (rs2 < 32) × IsDistance 13 offset
IsInstructionInRange (Load _ rd rs1 offset) = (rd < 32) × (rs1 < 32) × IsSigned 12 offset
IsInstructionInRange (Store _ rs2 rs1 offset) = (rs2 < 32) × (rs1 < 32) × IsSigned 12 offset
IsInstructionInRange (Immediate _ rd rs1 imm) = (rd < 32) × (rs1 < 32) × IsSigned 12 imm
IsInstructionInRange (Shift _ rd rs1 amount) = (rd < 32) × (rs1 < 32) × (amount < 32)
IsInstructionInRange (Register _ rd rs1 rs2) = (rd < 32) × (rs1 < 32) × (rs2 < 32)
IsInstructionInRange (MulDiv _ rd rs1 rs2) = (rd < 32) × (rs1 < 32) × (rs2 < 32)
IsInstructionInRange Fence = Unit {0}
IsInstructionInRange InstructionFence = Unit {0}
IsInstructionInRange Ecall = Unit {0}
IsInstructionInRange Ebreak = Unit {0}
IsInstructionInRange (LoadReserved rd rs1 _) = (rd < 32) × (rs1 < 32)
IsInstructionInRange (StoreConditional rd rs1 rs2 _) = (rd < 32) × (rs1 < 32) × (rs2 < 32)
IsInstructionInRange (Amo _ rd rs1 rs2 _) = (rd < 32) × (rs1 < 32) × (rs2 < 32)

-- the same of what is found at a pc
abbrev pub OpInRange : Op → Type 0
OpInRange (Known instr) = IsInstructionInRange instr
OpInRange Illegal = Unit {0}
OpInRange NoWord = Unit {0}

-- what reading a word has to answer: the instruction that it spells, the only one, or none
pub record IsReading (word : ℕ) (result : Option Instr) : Type 0 where
  pub found : IfSome result (λ instr. Spells word instr)
  pub only : (instr : Instr) → Spells word instr → result ≡ Some instr
  pub in_range : IfSome result IsInstructionInRange
