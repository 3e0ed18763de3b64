-- The names of the instructions of a litmus test: those of the instruction table's rows, as `rv_text` has them, and what
-- assemblers write beside (the RISC-V Assembly Programmer's Manual for li, la, mv, nop, j, the branches against zero or of
-- swapped registers, and the fences).
use Rattle.std.specs.Prelude.{◌≡◌, ◌⊎◌, ℕ, Bool, true, false, List, ◌∷◌, ◌++◌, codes, Option, Some, None}
use Rattle.rv_instr.specs.declared.instr.BranchOp.{BranchOp}
use Rattle.rv_instr.specs.declared.instr.BranchOp.TheVariants.{Beq, Bne, Blt, Bge, Bltu, Bgeu}
use Rattle.rv_text.specs.declared.mnemonic.{Mnemonic.Mnemonic as Row}
use Rattle.rv_text.specs.declared.mnemonic.Mnemonic.TheVariants as row_of
use Rattle.rv_text.specs.Mnemonic.{mnemonic_name, atomic_name}
use Rattle.litmus_words.specs.declared.mnemonic.Mnemonic.{Mnemonic}
use Rattle.litmus_words.specs.declared.mnemonic.Mnemonic.TheVariants as name

-- Both ordering bits of an atomic, with a dot between.
abbrev pub HasDotBetween : List ℕ → Row → Type 0
HasDotBetween text (row_of.Atomic op ordering) =
    (text ≡ atomic_name op ++ 46 ∷ codes "w.aq.rl") × (ordering.aq ≡ true) × (ordering.rl ≡ true)
HasDotBetween text row = ⊥

-- The text is the name of the row.
abbrev pub IsRowNamed : List ℕ → Row → Type 0
IsRowNamed text row = (text ≡ mnemonic_name row) ⊎ HasDotBetween text row

-- The operands of the row are registers and numbers, and behind it the hart goes on, wherever it stands.
abbrev pub is_taken : Row → Bool
is_taken row_of.Lui = true
is_taken row_of.Auipc = false
is_taken row_of.Jal = false
is_taken row_of.Jalr = false
is_taken (row_of.Branch op) = false
is_taken (row_of.Load op) = true
is_taken (row_of.Store op) = true
is_taken (row_of.Immediate op) = true
is_taken (row_of.Shift op) = true
is_taken (row_of.Register op) = true
is_taken (row_of.MulDiv op) = true
is_taken row_of.Fence = false
is_taken row_of.InstructionFence = false
is_taken row_of.Ecall = false
is_taken row_of.Ebreak = false
is_taken (row_of.Atomic op ordering) = true

-- The row is this instruction.
abbrev pub IsOfRow : Row → Mnemonic → Type 0
IsOfRow row (name.Row row') = (row ≡ row') × (is_taken row ≡ true)
IsOfRow row (name.Branch op) = row ≡ row_of.Branch op
IsOfRow row name.Fence = row ≡ row_of.Fence
IsOfRow row name.JumpAndLink = row ≡ row_of.Jal
IsOfRow row mnemonic = ⊥

-- The names of branches against 0, of 0 against a register, and of two registers of which the second comes first.
abbrev pub branch_zero_name : BranchOp → Option (List ℕ)
branch_zero_name Beq = Some (codes "beqz")
branch_zero_name Bne = Some (codes "bnez")
branch_zero_name Blt = Some (codes "bltz")
branch_zero_name Bge = Some (codes "bgez")
branch_zero_name op = None

abbrev pub zero_branch_name : BranchOp → Option (List ℕ)
zero_branch_name Blt = Some (codes "bgtz")
zero_branch_name Bge = Some (codes "blez")
zero_branch_name op = None

abbrev pub swapped_branch_name : BranchOp → Option (List ℕ)
swapped_branch_name Blt = Some (codes "bgt")
swapped_branch_name Bge = Some (codes "ble")
swapped_branch_name Bltu = Some (codes "bgtu")
swapped_branch_name Bgeu = Some (codes "bleu")
swapped_branch_name op = None

-- The text is the name of an instruction that no row has: of a branch, or of another.
abbrev pub IsOtherBranch : List ℕ → Mnemonic → Type 0
IsOtherBranch text (name.BranchZero op) = branch_zero_name op ≡ Some text
IsOtherBranch text (name.ZeroBranch op) = zero_branch_name op ≡ Some text
IsOtherBranch text (name.SwappedBranch op) = swapped_branch_name op ≡ Some text
IsOtherBranch text mnemonic = ⊥

abbrev pub IsOtherName : List ℕ → Mnemonic → Type 0
IsOtherName text name.Constant = text ≡ codes "li"
IsOtherName text name.LoadAddress = text ≡ codes "la"
IsOtherName text name.Move = text ≡ codes "mv"
IsOtherName text name.Nothing = text ≡ codes "nop"
IsOtherName text name.Jump = text ≡ codes "j"
IsOtherName text name.TotalStoreOrderFence = text ≡ codes "fence.tso"
IsOtherName text mnemonic = ⊥

-- The text is the name of a row that is this instruction.
pub record IsNameOfRow (text : List ℕ) (mnemonic : Mnemonic) : Type 0 where
  pub row : Row
  pub named : IsRowNamed text row
  pub is : IsOfRow row mnemonic

-- The text is the name.
abbrev pub IsNamed : List ℕ → Mnemonic → Type 0
IsNamed text mnemonic = IsOtherName text mnemonic ⊎ IsOtherBranch text mnemonic ⊎ IsNameOfRow text mnemonic
