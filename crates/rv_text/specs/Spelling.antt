-- The one spelling of each instruction: a name in lower case; then, where the row has operands, a
-- space and the operands, apart by commas. The register that is written comes first, in a store the
-- one whose value is stored. Numbers are decimal and signed; the upper part of a word and the
-- target of a jump are hexadecimal. (The order of the operands is that of the RISC-V Assembly
-- Programmer's Manual, without its aliases. That a target is written as an address is this
-- project's own choice.)
use Rattle.std.specs.Prelude.{◌≡◌, ℕ, ◌/◌, ◌^◌, ◌<◌, ℤ, pos, ◌+ℤ◌, List, [], ◌++◌, codes, decimal}
use Rattle.std.specs.Fmt.{signed_decimal}
use Rattle.rv_word.specs.Word.{word_of}
use Rattle.rv_instr.specs.{declared.instr.Instr.Instr, Table.IsInstructionInRange}
use Rattle.rv_instr.specs.declared.instr.Instr.TheVariants.{Lui, Auipc, Jal, Jalr, Branch, Load}
use Rattle.rv_instr.specs.declared.instr.Instr.TheVariants.{Store, Immediate, Shift, Register}
use Rattle.rv_instr.specs.declared.instr.Instr.TheVariants.{MulDiv, Fence, InstructionFence, Ecall, Ebreak}
use Rattle.rv_instr.specs.declared.instr.Instr.TheVariants.{LoadReserved, StoreConditional, Amo}
use Rattle.text_fields.specs.Spelling.{hex}
use Rattle.rv_text.specs.{declared.mnemonic.Mnemonic.Mnemonic, Mnemonic.mnemonic_name}
use Rattle.rv_text.specs.declared.mnemonic.Mnemonic.TheVariants as mnemonic
use Rattle.rv_text.specs.declared.mnemonic.AtomicOp.TheVariants as atomics

-- the row of the table that an instruction belongs to
abbrev pub mnemonic_of : Instr → Mnemonic
mnemonic_of (Lui _ _) = mnemonic.Lui
mnemonic_of (Auipc _ _) = mnemonic.Auipc
mnemonic_of (Jal _ _) = mnemonic.Jal
mnemonic_of (Jalr _ _ _) = mnemonic.Jalr
mnemonic_of (Branch op _ _ _) = mnemonic.Branch op
mnemonic_of (Load op _ _ _) = mnemonic.Load op
mnemonic_of (Store op _ _ _) = mnemonic.Store op
mnemonic_of (Immediate op _ _ _) = mnemonic.Immediate op
mnemonic_of (Shift op _ _ _) = mnemonic.Shift op
mnemonic_of (Register op _ _ _) = mnemonic.Register op
mnemonic_of (MulDiv op _ _ _) = mnemonic.MulDiv op
mnemonic_of Fence = mnemonic.Fence
mnemonic_of InstructionFence = mnemonic.InstructionFence
mnemonic_of Ecall = mnemonic.Ecall
mnemonic_of Ebreak = mnemonic.Ebreak
mnemonic_of (LoadReserved _ _ ordering) = mnemonic.Atomic atomics.LoadReserved ordering
mnemonic_of (StoreConditional _ _ _ ordering) = mnemonic.Atomic atomics.StoreConditional ordering
mnemonic_of (Amo kind _ _ _ ordering) = mnemonic.Atomic (atomics.Amo kind) ordering

-- ---- operands, each with the characters that stand before it

unfoldable pub register_text : List ℕ → ℕ → List ℕ
register_text before number = before ++ decimal number

abbrev pub first_register_text : ℕ → List ℕ
first_register_text number = register_text (codes " x") number

abbrev pub next_register : ℕ → List ℕ
next_register number = register_text (codes ",x") number

-- the base of an address, behind a distance or alone; a `)` follows
abbrev pub base_register : ℕ → List ℕ
base_register number = register_text (codes "(x") number

abbrev pub address_register : ℕ → List ℕ
address_register number = register_text (codes ",(x") number

unfoldable pub signed_text : ℤ → List ℕ
signed_text number = codes "," ++ signed_decimal number

unfoldable pub amount_text : ℕ → List ℕ
amount_text number = codes "," ++ decimal number

-- `count` hexadecimal digits
unfoldable pub hex_text : ℕ → ℕ → List ℕ
hex_text count number = codes ",0x" ++ hex count number

-- the upper twenty bits of a word
abbrev pub upper_of : ℕ → ℕ
upper_of imm = imm / 2 ^ 12

abbrev pub upper_text : ℕ → List ℕ
upper_text imm = hex_text 5 (upper_of imm)

-- where a jump from pc goes: the sum, of which 32 bits are kept
unfoldable pub target_of : ℕ → ℤ → ℕ
target_of pc offset = word_of (pos pc +ℤ offset)

abbrev pub target_text : ℕ → ℤ → List ℕ
target_text pc offset = hex_text 8 (target_of pc offset)

-- a register, and an address by a base register and a distance from it
abbrev pub memory_text : ℕ → ℤ → ℕ → List ℕ
memory_text number offset base =
    first_register_text number ++ signed_text offset ++ base_register base ++ codes ")"

abbrev pub operands_of : Instr → ℕ → List ℕ
operands_of (Lui rd imm) pc = first_register_text rd ++ upper_text imm
operands_of (Auipc rd imm) pc = first_register_text rd ++ upper_text imm
operands_of (Jal rd offset) pc = first_register_text rd ++ target_text pc offset
operands_of (Jalr rd rs1 offset) pc = memory_text rd offset rs1
operands_of (Branch _ rs1 rs2 offset) pc =
    first_register_text rs1 ++ next_register rs2 ++ target_text pc offset
operands_of (Load _ rd rs1 offset) pc = memory_text rd offset rs1
operands_of (Store _ rs2 rs1 offset) pc = memory_text rs2 offset rs1
operands_of (Immediate _ rd rs1 imm) pc =
    first_register_text rd ++ next_register rs1 ++ signed_text imm
operands_of (Shift _ rd rs1 amount) pc =
    first_register_text rd ++ next_register rs1 ++ amount_text amount
operands_of (Register _ rd rs1 rs2) pc =
    first_register_text rd ++ next_register rs1 ++ next_register rs2
operands_of (MulDiv _ rd rs1 rs2) pc =
    first_register_text rd ++ next_register rs1 ++ next_register rs2
operands_of Fence pc = []
operands_of InstructionFence pc = []
operands_of Ecall pc = []
operands_of Ebreak pc = []
operands_of (LoadReserved rd rs1 _) pc = first_register_text rd ++ address_register rs1 ++ codes ")"
operands_of (StoreConditional rd rs1 rs2 _) pc =
    first_register_text rd ++ next_register rs2 ++ address_register rs1 ++ codes ")"
operands_of (Amo _ rd rs1 rs2 _) pc =
    first_register_text rd ++ next_register rs2 ++ address_register rs1 ++ codes ")"

-- the whole text
abbrev pub spelling_of : Instr → ℕ → List ℕ
spelling_of instr pc = mnemonic_name (mnemonic_of instr) ++ operands_of instr pc

-- an upper immediate is a word
abbrev pub HasWord : Instr → Type 0
HasWord (Lui _ imm) = imm < 2 ^ 32
HasWord (Auipc _ imm) = imm < 2 ^ 32
HasWord _ = Unit {0}

-- the text is the spelling of this instruction at pc
pub record Says (text : List ℕ) (instr : Instr) (pc : ℕ) : Type 0 where
  pub in_range : IsInstructionInRange instr
  pub has_word : HasWord instr
  pub spelled : text ≡ spelling_of instr pc
