-- What an instruction is for the pipeline: which registers it names, and what it does with memory.
use Rattle.std.specs.Prelude.{ℕ, Bool, true, false, not, ◌==◌, Option, Some, None}
use Rattle.rv_instr.specs.{Registers.op_rd, Registers.op_rs1, Registers.op_rs2}
use Rattle.rv_instr.specs.{declared.kind.Kind.Kind, declared.op.Op.Op}
use Rattle.rv_instr.specs.{declared.op.Op.TheVariants.Known, declared.op.Op.TheVariants.Illegal}
use Rattle.rv_instr.specs.{declared.op.Op.TheVariants.NoWord, declared.instr.Instr.Instr}
use Rattle.rv_instr.specs.declared.kind.Kind.TheVariants.{Computing, Loading, Storing, Reserving}
use Rattle.rv_instr.specs.declared.kind.Kind.TheVariants.{Conditional, Atomic}
use Rattle.rv_instr.specs.declared.instr.Instr.TheVariants as instr

-- What an instruction does with memory: nothing; LB to LHU; SB, SH, SW; LR; SC; an AMO.
-- [RISC-V Unprivileged ISA, chapters "RV32I" and "A"]
abbrev pub kind_of_instr : Instr → Kind
kind_of_instr (instr.Lui _ _) = Computing
kind_of_instr (instr.Auipc _ _) = Computing
kind_of_instr (instr.Jal _ _) = Computing
kind_of_instr (instr.Jalr _ _ _) = Computing
kind_of_instr (instr.Branch _ _ _ _) = Computing
kind_of_instr (instr.Load _ _ _ _) = Loading
kind_of_instr (instr.Store _ _ _ _) = Storing
kind_of_instr (instr.Immediate _ _ _ _) = Computing
kind_of_instr (instr.Shift _ _ _ _) = Computing
kind_of_instr (instr.Register _ _ _ _) = Computing
kind_of_instr (instr.MulDiv _ _ _ _) = Computing
kind_of_instr instr.Fence = Computing
kind_of_instr instr.InstructionFence = Computing
kind_of_instr instr.Ecall = Computing
kind_of_instr instr.Ebreak = Computing
kind_of_instr (instr.LoadReserved _ _ _) = Reserving
kind_of_instr (instr.StoreConditional _ _ _ _) = Conditional
kind_of_instr (instr.Amo _ _ _ _ _) = Atomic

unfoldable pub kind_of : Op → Kind
kind_of (Known i) = kind_of_instr i
kind_of Illegal = Computing
kind_of NoWord = Computing

-- A load and a store are the kinds that have queues of their own; LR, SC and AMO are in neither.
abbrev pub is_loading : Kind → Bool
is_loading Computing = false
is_loading Loading = true
is_loading Storing = false
is_loading Reserving = false
is_loading Conditional = false
is_loading Atomic = false

abbrev pub is_storing : Kind → Bool
is_storing Computing = false
is_storing Loading = false
is_storing Storing = true
is_storing Reserving = false
is_storing Conditional = false
is_storing Atomic = false

-- It reads or writes memory.
abbrev pub touches_memory : Kind → Bool
touches_memory Computing = false
touches_memory Loading = true
touches_memory Storing = true
touches_memory Reserving = true
touches_memory Conditional = true
touches_memory Atomic = true

-- The number, or 0 where there is none.
abbrev pub or_zero : Option ℕ → ℕ
or_zero None = 0
or_zero (Some n) = n

-- The register that is written, and those that are read, first and second: 0 stands for x0 and for
-- none.
unfoldable pub destination : Op → ℕ
destination op = or_zero (op_rd op)

unfoldable pub first_source : Op → ℕ
first_source op = or_zero (op_rs1 op)

unfoldable pub second_source : Op → ℕ
second_source op = or_zero (op_rs2 op)

-- A physical register is taken exactly for a destination that isn't x0.
abbrev pub writes_register : Op → Bool
writes_register op = not (destination op == 0)
