-- What a row makes of its operands. The order of the operands in a text is that of `Spelling` and `Reading`.
use Rattle.std.specs.Prelude.{ℕ}
use Rattle.rv_instr.specs.{declared.instr.Instr.Instr, declared.instr.Ordering.Ordering}
use Rattle.rv_instr.specs.declared.instr.Instr.TheVariants as instr
use Rattle.rv_text.specs.declared.operands.Operands.{Operands}
use Rattle.rv_text.specs.{declared.mnemonic.Mnemonic.Mnemonic, declared.mnemonic.AtomicOp.AtomicOp}
use Rattle.rv_text.specs.declared.mnemonic.AtomicOp.TheVariants.{LoadReserved, StoreConditional, Amo}
use Rattle.rv_text.specs.declared.mnemonic.Mnemonic.TheVariants.{Lui, Auipc, Jal, Jalr, Branch}
use Rattle.rv_text.specs.declared.mnemonic.Mnemonic.TheVariants.{Load, Store, Immediate, Shift}
use Rattle.rv_text.specs.declared.mnemonic.Mnemonic.TheVariants.{Register, MulDiv, Fence, InstructionFence, Ecall}
use Rattle.rv_text.specs.declared.mnemonic.Mnemonic.TheVariants.{Ebreak, Atomic}

abbrev pub atomic_with : AtomicOp → Ordering → ℕ → ℕ → ℕ → Instr
atomic_with LoadReserved ordering rd rs1 rs2 = instr.LoadReserved rd rs1 ordering
atomic_with StoreConditional ordering rd rs1 rs2 = instr.StoreConditional rd rs1 rs2 ordering
atomic_with (Amo kind) ordering rd rs1 rs2 = instr.Amo kind rd rs1 rs2 ordering

-- the instruction of a row that has these operands; those that it has none of don't count
unfoldable pub instr_with : Mnemonic → Operands → Instr
instr_with Lui operands = instr.Lui operands.rd operands.upper
instr_with Auipc operands = instr.Auipc operands.rd operands.upper
instr_with Jal operands = instr.Jal operands.rd operands.offset
instr_with Jalr operands = instr.Jalr operands.rd operands.rs1 operands.offset
instr_with (Branch op) operands = instr.Branch op operands.rs1 operands.rs2 operands.offset
instr_with (Load op) operands = instr.Load op operands.rd operands.rs1 operands.offset
instr_with (Store op) operands = instr.Store op operands.rs2 operands.rs1 operands.offset
instr_with (Immediate op) operands = instr.Immediate op operands.rd operands.rs1 operands.offset
instr_with (Shift op) operands = instr.Shift op operands.rd operands.rs1 operands.amount
instr_with (Register op) operands = instr.Register op operands.rd operands.rs1 operands.rs2
instr_with (MulDiv op) operands = instr.MulDiv op operands.rd operands.rs1 operands.rs2
instr_with Fence operands = instr.Fence
instr_with InstructionFence operands = instr.InstructionFence
instr_with Ecall operands = instr.Ecall
instr_with Ebreak operands = instr.Ebreak
instr_with (Atomic op ordering) operands = atomic_with op ordering operands.rd operands.rs1 operands.rs2
