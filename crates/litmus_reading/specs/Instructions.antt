-- Which tokens spell an instruction: its name, and its operands (RISC-V Unprivileged ISA; the RISC-V Assembly
-- Programmer's Manual for the order of operands).
use Rattle.std.specs.Prelude.{◌≡◌, ◌⊎◌, ◌≤◌, ◌<◌, ◌*◌, ◌^◌, ℕ, ℤ, pos, Bool, true, false, List, [], ◌∷◌, ◌++◌}
use Rattle.rv_instr.specs.Table.{IsSigned}
use Rattle.rv_instr.specs.declared.instr.Instr.{Instr}
use Rattle.rv_instr.specs.declared.instr.Instr.TheVariants as instr
use Rattle.rv_instr.specs.declared.instr.ImmediateOp.TheVariants.{Addi}
use Rattle.rv_instr.specs.declared.instr.BranchOp.TheVariants.{Beq}
use Rattle.rv_text.specs.{declared.operands.Operands.Operands, Operands.instr_with}
use Rattle.rv_text.specs.declared.mnemonic.{Mnemonic.Mnemonic as Row}
use Rattle.rv_text.specs.declared.mnemonic.Mnemonic.TheVariants as row_of
use Rattle.rv_text.specs.declared.mnemonic.AtomicOp.TheVariants as atomic
use Rattle.litmus_reading.specs.declared.instruction.Written.{Written}
use Rattle.litmus_reading.specs.declared.instruction.Written.TheVariants.{Straight, Constant, Branch, Fence}
use Rattle.litmus_tests.specs.declared.fence.Fence.TheVariants.{Sets, TotalStoreOrder}
use Rattle.litmus_words.specs.declared.mnemonic.Mnemonic.{Mnemonic}
use Rattle.litmus_words.specs.declared.mnemonic.Mnemonic.TheVariants as name
use Rattle.litmus_words.specs.declared.word.Token.{Token}
use Rattle.litmus_words.specs.declared.word.Token.TheVariants.{Register, Mark, Name, Location}
use Rattle.litmus_words.specs.declared.word.Token.TheVariants.{Mnemonic as name_token}
use Rattle.litmus_words.specs.declared.word.Mark.TheVariants as mark
use Rattle.litmus_words.specs.declared.word.Word.{Word}
use Rattle.litmus_words.specs.Parts.{SpellsInteger, SpellsNumber, SpellsAddress as SpellsByteAddress}
use Rattle.litmus_reading.specs.Fences.{HasItsSets}
use Rattle.litmus_tests.specs.{Limits.most_locations, Conditions.number_of, declared.value.Value.TheVariants.Address}
use Rattle.litmus_words.specs.Tokens.{Takes, tokens}

-- `x5,x6` and `x5,x6,x7`.
abbrev pub pair : ℕ → ℕ → List Token
pair first second = Register first ∷ Mark mark.Comma ∷ Register second ∷ []

abbrev pub triple : ℕ → ℕ → ℕ → List Token
triple first second third = Register first ∷ Mark mark.Comma ∷ pair second third

-- A number from -2048 to 2047.
pub record SpellsShort (text : List Token) (number : ℤ) : Type 0 where
  pub spelled : SpellsInteger text number
  pub short : IsSigned 12 number

-- `(x6)`, and with an offset before it; none is 0.
abbrev pub base_tokens : ℕ → List Token
base_tokens base = Mark mark.LeftParenthesis ∷ Register base ∷ Mark mark.RightParenthesis ∷ []

abbrev pub SpellsOffset : List Token → ℤ → Type 0
SpellsOffset text offset = ((text ≡ []) × (offset ≡ pos 0)) ⊎ SpellsShort text offset

pub record SpellsAddress (text : List Token) (offset : ℤ) (base : ℕ) : Type 0 where
  pub before : List Token
  pub first : SpellsOffset before offset
  pub spelled : text ≡ before ++ base_tokens base

pub record OffsetTaken (words : List Word) (offset : ℤ) (rest : List Word) : Type 0 where
  pub text : List Token
  pub spells : SpellsOffset text offset
  pub takes : Takes words text rest

pub record ShortTaken (words : List Word) (number : ℤ) (rest : List Word) : Type 0 where
  pub text : List Token
  pub spells : SpellsShort text number
  pub takes : Takes words text rest

-- `,(x6)`.
pub record IsCommaBase (text : List Token) (base : ℕ) : Type 0 where
  pub address : List Token
  pub spells : SpellsAddress address (pos 0) base
  pub spelled : text ≡ Mark mark.Comma ∷ address

-- `x5,4(x6)`.
pub record SpellsMemory (text : List Token) (register : ℕ) (offset : ℤ) (base : ℕ) : Type 0 where
  pub address : List Token
  pub spells : SpellsAddress address offset base
  pub spelled : text ≡ Register register ∷ Mark mark.Comma ∷ address

-- `x5,x6,1`.
pub record SpellsImmediate (text : List Token) (rd rs1 : ℕ) (imm : ℤ) : Type 0 where
  pub number : List Token
  pub spells : SpellsShort number imm
  pub spelled : text ≡ Register rd ∷ Mark mark.Comma ∷ Register rs1 ∷ Mark mark.Comma ∷ number

-- `x5,x6,4`, the amount of a shift.
pub record SpellsAmount (text : List Token) (rd rs1 amount : ℕ) : Type 0 where
  pub number : List Token
  pub spells : SpellsInteger number (pos amount)
  pub small : amount ≤ 31
  pub spelled : text ≡ Register rd ∷ Mark mark.Comma ∷ Register rs1 ∷ Mark mark.Comma ∷ number

-- `x5,0x12345`: the upper twenty bits of a word.
pub record SpellsUpper (text : List Token) (rd upper : ℕ) : Type 0 where
  pub number : List Token
  pub bits : ℕ
  pub spells : SpellsInteger number (pos bits)
  pub small : bits < 2 ^ 20
  pub word : upper ≡ bits * 4096
  pub spelled : text ≡ Register rd ∷ Mark mark.Comma ∷ number

-- `x7,x5,(x6)`.
pub record SpellsAtomic (text : List Token) (rd rs2 rs1 : ℕ) : Type 0 where
  pub address : List Token
  pub spells : SpellsAddress address (pos 0) rs1
  pub spelled : text ≡ Register rd ∷ Mark mark.Comma ∷ Register rs2 ∷ Mark mark.Comma ∷ address

-- `x5,1`.
pub record SpellsConstant (text : List Token) (register value : ℕ) : Type 0 where
  pub number : List Token
  pub spells : SpellsNumber number value
  pub spelled : text ≡ Register register ∷ Mark mark.Comma ∷ number

-- `x5,x`: the address as a number.
pub record SpellsLoadAddress (text : List Token) (register value : ℕ) : Type 0 where
  pub address : List Token
  pub byte : ℕ
  pub spells : SpellsByteAddress address byte
  pub there : byte < 4 * most_locations
  pub number : value ≡ number_of (Address byte)
  pub spelled : text ≡ Register register ∷ Mark mark.Comma ∷ address

-- The operands of a row, and the instruction that it is with them.
abbrev pub SpellsOperands : Row → List Token → Operands → Type 0
SpellsOperands row_of.Lui text operands = SpellsUpper text operands.rd operands.upper
SpellsOperands (row_of.Load op) text operands = SpellsMemory text operands.rd operands.offset operands.rs1
SpellsOperands (row_of.Store op) text operands = SpellsMemory text operands.rs2 operands.offset operands.rs1
SpellsOperands (row_of.Immediate op) text operands = SpellsImmediate text operands.rd operands.rs1 operands.offset
SpellsOperands (row_of.Shift op) text operands = SpellsAmount text operands.rd operands.rs1 operands.amount
SpellsOperands (row_of.Register op) text operands = text ≡ triple operands.rd operands.rs1 operands.rs2
SpellsOperands (row_of.MulDiv op) text operands = text ≡ triple operands.rd operands.rs1 operands.rs2
SpellsOperands (row_of.Atomic atomic.LoadReserved ordering) text operands =
    SpellsMemory text operands.rd (pos 0) operands.rs1
SpellsOperands (row_of.Atomic op ordering) text operands =
    SpellsAtomic text operands.rd operands.rs2 operands.rs1
SpellsOperands row text operands = ⊥

pub record SpellsRow (row : Row) (text : List Token) (instruction : Instr) : Type 0 where
  pub operands : Operands
  pub spells : SpellsOperands row text operands
  pub made : instruction ≡ instr_with row operands

-- The operands of an instruction behind which the hart goes on.
abbrev pub SpellsStraight : Mnemonic → List Token → Instr → Type 0
SpellsStraight (name.Row row) text instruction = SpellsRow row text instruction
SpellsStraight name.Move text (instr.Immediate Addi rd rs1 imm) = (imm ≡ pos 0) × (text ≡ pair rd rs1)
SpellsStraight name.Nothing text (instr.Immediate Addi rd rs1 imm) =
    (imm ≡ pos 0) × (rd ≡ 0) × (rs1 ≡ 0) × (text ≡ [])
SpellsStraight mnemonic text instruction = ⊥

-- What can be the name of a label: a location may have the same name. It is the last of the words.
abbrev pub is_label : Token → Bool
is_label Name = true
is_label (Location declared) = true
is_label token = false

pub record IsLastLabel (words : List Word) (label : Word) : Type 0 where
  pub front : List Word
  pub last : words ≡ front ++ label ∷ []
  pub named : is_label label.token ≡ true

-- A branch names its target by a word.
abbrev pub SpellsBranch : Mnemonic → List Token → Written → Type 0
SpellsBranch (name.Branch op) text (Branch op' left right label) = (op ≡ op')
    × (text ≡ Register left ∷ Mark mark.Comma ∷ Register right ∷ Mark mark.Comma ∷ label.token ∷ [])
SpellsBranch (name.SwappedBranch op) text (Branch op' left right label) = (op ≡ op')
    × (text ≡ Register right ∷ Mark mark.Comma ∷ Register left ∷ Mark mark.Comma ∷ label.token ∷ [])
SpellsBranch (name.BranchZero op) text (Branch op' left right label) = (op ≡ op')
    × (right ≡ 0) × (text ≡ Register left ∷ Mark mark.Comma ∷ label.token ∷ [])
SpellsBranch (name.ZeroBranch op) text (Branch op' left right label) = (op ≡ op')
    × (left ≡ 0) × (text ≡ Register right ∷ Mark mark.Comma ∷ label.token ∷ [])
SpellsBranch name.Jump text (Branch op' left right label) = (op' ≡ Beq) × (left ≡ 0) × (right ≡ 0)
    × (text ≡ label.token ∷ [])
SpellsBranch name.JumpAndLink text (Branch op' left right label) = (op' ≡ Beq) × (left ≡ 0) × (right ≡ 0)
    × (text ≡ Register 0 ∷ Mark mark.Comma ∷ label.token ∷ [])
SpellsBranch mnemonic text written = ⊥

-- The operands of an instruction of this name; the sets of a fence are told by `HasItsSets`.
abbrev pub SpellsWritten : Mnemonic → List Token → Written → Type 0
SpellsWritten mnemonic text (Straight instruction) = SpellsStraight mnemonic text instruction
SpellsWritten name.Constant text (Constant register value) = SpellsConstant text register value
SpellsWritten name.LoadAddress text (Constant register value) = SpellsLoadAddress text register value
SpellsWritten mnemonic text (Constant register value) = ⊥
SpellsWritten name.Fence text (Fence (Sets before after)) = Unit {0}
SpellsWritten name.TotalStoreOrderFence text (Fence TotalStoreOrder) = text ≡ []
SpellsWritten mnemonic text (Fence fence) = ⊥
SpellsWritten mnemonic text (Branch op left right label) = SpellsBranch mnemonic text (Branch op left right label)

-- The label to which a branch goes is the last of its words.
abbrev pub HasItsLabel : List Word → Written → Type 0
HasItsLabel words (Branch op left right label) = IsLastLabel words label
HasItsLabel words written = Unit {0}

-- The words spell the instruction: its name, and behind it its operands.
pub record SpellsInstruction (text : List ℕ) (words : List Word) (written : Written) : Type 0 where
  pub mnemonic : Mnemonic
  pub operands : List Token
  pub spelled : tokens words ≡ name_token mnemonic ∷ operands
  pub spells : SpellsWritten mnemonic operands written
  pub label : HasItsLabel words written
  pub sets : HasItsSets text words written
