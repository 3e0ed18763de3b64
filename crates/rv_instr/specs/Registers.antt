use Rattle.std.specs.Prelude.{ℕ, Bool, true, false, Option, Some, None}
use Rattle.rv_instr.specs.{declared.instr.Instr.Instr, declared.op.Op.Op}
use Rattle.rv_instr.specs.{declared.op.Op.TheVariants.Known, declared.op.Op.TheVariants.Illegal}
use Rattle.rv_instr.specs.{declared.op.Op.TheVariants.NoWord, declared.op.UnitKind.UnitKind}
use Rattle.rv_instr.specs.{declared.op.UnitKind.TheVariants.Alu}
use Rattle.rv_instr.specs.{declared.op.UnitKind.TheVariants.Mul}
use Rattle.rv_instr.specs.{declared.op.UnitKind.TheVariants.Mem}
use Rattle.rv_instr.specs.declared.instr.Instr.TheVariants.{Lui, Auipc, Jal, Jalr, Branch, Load}
use Rattle.rv_instr.specs.declared.instr.Instr.TheVariants.{Store, Immediate, Shift, Register}
use Rattle.rv_instr.specs.declared.instr.Instr.TheVariants.{MulDiv, Fence, InstructionFence, Ecall, Ebreak}
use Rattle.rv_instr.specs.declared.instr.Instr.TheVariants.{LoadReserved, StoreConditional, Amo}

-- the register that an instruction writes; x0 counts as one
unfoldable pub rd_of : Instr → Option ℕ
rd_of (Lui rd _) = Some rd
rd_of (Auipc rd _) = Some rd
rd_of (Jal rd _) = Some rd
rd_of (Jalr rd _ _) = Some rd
rd_of (Branch _ _ _ _) = None
rd_of (Load _ rd _ _) = Some rd
rd_of (Store _ _ _ _) = None
rd_of (Immediate _ rd _ _) = Some rd
rd_of (Shift _ rd _ _) = Some rd
rd_of (Register _ rd _ _) = Some rd
rd_of (MulDiv _ rd _ _) = Some rd
rd_of Fence = None
rd_of InstructionFence = None
rd_of Ecall = None
rd_of Ebreak = None
rd_of (LoadReserved rd _ _) = Some rd
rd_of (StoreConditional rd _ _ _) = Some rd
rd_of (Amo _ rd _ _ _) = Some rd

-- the first register that an instruction reads; ECALL reads the number of its call in x17
-- (this project's own choice, after the usual calling convention)
unfoldable pub rs1_of : Instr → Option ℕ
rs1_of (Lui _ _) = None
rs1_of (Auipc _ _) = None
rs1_of (Jal _ _) = None
rs1_of (Jalr _ rs1 _) = Some rs1
rs1_of (Branch _ rs1 _ _) = Some rs1
rs1_of (Load _ _ rs1 _) = Some rs1
rs1_of (Store _ _ rs1 _) = Some rs1
rs1_of (Immediate _ _ rs1 _) = Some rs1
rs1_of (Shift _ _ rs1 _) = Some rs1
rs1_of (Register _ _ rs1 _) = Some rs1
rs1_of (MulDiv _ _ rs1 _) = Some rs1
rs1_of Fence = None
rs1_of InstructionFence = None
rs1_of Ecall = Some 17
rs1_of Ebreak = None
rs1_of (LoadReserved _ rs1 _) = Some rs1
rs1_of (StoreConditional _ rs1 _ _) = Some rs1
rs1_of (Amo _ _ rs1 _ _) = Some rs1

-- the second register that an instruction reads; ECALL reads the argument of its call in x10
unfoldable pub rs2_of : Instr → Option ℕ
rs2_of (Lui _ _) = None
rs2_of (Auipc _ _) = None
rs2_of (Jal _ _) = None
rs2_of (Jalr _ _ _) = None
rs2_of (Branch _ _ rs2 _) = Some rs2
rs2_of (Load _ _ _ _) = None
rs2_of (Store _ rs2 _ _) = Some rs2
rs2_of (Immediate _ _ _ _) = None
rs2_of (Shift _ _ _ _) = None
rs2_of (Register _ _ _ rs2) = Some rs2
rs2_of (MulDiv _ _ _ rs2) = Some rs2
rs2_of Fence = None
rs2_of InstructionFence = None
rs2_of Ecall = Some 10
rs2_of Ebreak = None
rs2_of (LoadReserved _ _ _) = None
rs2_of (StoreConditional _ _ rs2 _) = Some rs2
rs2_of (Amo _ _ _ rs2 _) = Some rs2

-- the unit that executes an instruction: multiplication and division, memory, or all else
unfoldable pub unit_of : Instr → UnitKind
unit_of (MulDiv _ _ _ _) = Mul
unit_of (Load _ _ _ _) = Mem
unit_of (Store _ _ _ _) = Mem
unit_of (LoadReserved _ _ _) = Mem
unit_of (StoreConditional _ _ _ _) = Mem
unit_of (Amo _ _ _ _ _) = Mem
unit_of _ = Alu

-- the same of what is found at a pc: where no instruction is, no register is read or written

unfoldable pub op_rd : Op → Option ℕ
op_rd (Known instr) = rd_of instr
op_rd Illegal = None
op_rd NoWord = None

unfoldable pub op_rs1 : Op → Option ℕ
op_rs1 (Known instr) = rs1_of instr
op_rs1 Illegal = None
op_rs1 NoWord = None

unfoldable pub op_rs2 : Op → Option ℕ
op_rs2 (Known instr) = rs2_of instr
op_rs2 Illegal = None
op_rs2 NoWord = None

unfoldable pub op_unit : Op → UnitKind
op_unit (Known instr) = unit_of instr
op_unit Illegal = Alu
op_unit NoWord = Alu

-- two kinds of unit are the same
abbrev pub same_unit : UnitKind → UnitKind → Bool
same_unit Alu Alu = true
same_unit Mul Mul = true
same_unit Mem Mem = true
same_unit _ _ = false
