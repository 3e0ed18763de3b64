-- The name of each row of the instruction table, in lower case (RISC-V Unprivileged ISA, chapter
-- "RV32/64G Instruction Set Listings").
use Rattle.std.specs.Prelude.{ℕ, Bool, true, false, List, ◌∷◌, ◌++◌, codes}
use Rattle.rv_word.specs.declared.amo_kind.AmoKind.{AmoKind}
use Rattle.rv_word.specs.declared.amo_kind.AmoKind.TheVariants as kinds
use Rattle.rv_instr.specs.{declared.instr.BranchOp.BranchOp, declared.instr.LoadOp.LoadOp}
use Rattle.rv_instr.specs.{declared.instr.StoreOp.StoreOp, declared.instr.StoreOp.TheVariants.Sb}
use Rattle.rv_instr.specs.{declared.instr.StoreOp.TheVariants.Sh}
use Rattle.rv_instr.specs.{declared.instr.StoreOp.TheVariants.Sw}
use Rattle.rv_instr.specs.{declared.instr.ImmediateOp.ImmediateOp, declared.instr.ShiftOp.ShiftOp}
use Rattle.rv_instr.specs.{declared.instr.ShiftOp.TheVariants.Slli}
use Rattle.rv_instr.specs.{declared.instr.ShiftOp.TheVariants.Srli}
use Rattle.rv_instr.specs.{declared.instr.ShiftOp.TheVariants.Srai}
use Rattle.rv_instr.specs.{declared.instr.RegisterOp.RegisterOp, declared.instr.MulDivOp.MulDivOp}
use Rattle.rv_instr.specs.{declared.instr.Ordering.Ordering}
use Rattle.rv_instr.specs.declared.instr.BranchOp.TheVariants.{Beq, Bne, Blt, Bge, Bltu, Bgeu}
use Rattle.rv_instr.specs.declared.instr.LoadOp.TheVariants.{Lb, Lh, Lw, Lbu, Lhu}
use Rattle.rv_instr.specs.declared.instr.ImmediateOp.TheVariants.{Addi, Slti, Sltiu, Xori, Ori}
use Rattle.rv_instr.specs.declared.instr.ImmediateOp.TheVariants.{Andi}
use Rattle.rv_instr.specs.declared.instr.RegisterOp.TheVariants.{Add, Sub, Sll, Slt, Sltu, Xor}
use Rattle.rv_instr.specs.declared.instr.RegisterOp.TheVariants.{Srl, Sra, Or, And}
use Rattle.rv_instr.specs.declared.instr.MulDivOp.TheVariants.{Mul, Mulh, Mulhsu, Mulhu, Div, Divu}
use Rattle.rv_instr.specs.declared.instr.MulDivOp.TheVariants.{Rem, Remu}
use Rattle.rv_text.specs.{declared.mnemonic.Mnemonic.Mnemonic, declared.mnemonic.AtomicOp.AtomicOp}
use Rattle.rv_text.specs.{declared.mnemonic.AtomicOp.TheVariants.LoadReserved}
use Rattle.rv_text.specs.{declared.mnemonic.AtomicOp.TheVariants.StoreConditional}
use Rattle.rv_text.specs.{declared.mnemonic.AtomicOp.TheVariants.Amo}
use Rattle.rv_text.specs.declared.mnemonic.Mnemonic.TheVariants.{Lui, Auipc, Jal, Jalr, Branch}
use Rattle.rv_text.specs.declared.mnemonic.Mnemonic.TheVariants.{Load, Store, Immediate, Shift}
use Rattle.rv_text.specs.declared.mnemonic.Mnemonic.TheVariants.{Register, MulDiv, Fence, InstructionFence, Ecall}
use Rattle.rv_text.specs.declared.mnemonic.Mnemonic.TheVariants.{Ebreak, Atomic}

abbrev pub branch_name : BranchOp → List ℕ
branch_name Beq = codes "beq"
branch_name Bne = codes "bne"
branch_name Blt = codes "blt"
branch_name Bge = codes "bge"
branch_name Bltu = codes "bltu"
branch_name Bgeu = codes "bgeu"

abbrev pub load_name : LoadOp → List ℕ
load_name Lb = codes "lb"
load_name Lh = codes "lh"
load_name Lw = codes "lw"
load_name Lbu = codes "lbu"
load_name Lhu = codes "lhu"

abbrev pub store_name : StoreOp → List ℕ
store_name Sb = codes "sb"
store_name Sh = codes "sh"
store_name Sw = codes "sw"

abbrev pub immediate_name : ImmediateOp → List ℕ
immediate_name Addi = codes "addi"
immediate_name Slti = codes "slti"
immediate_name Sltiu = codes "sltiu"
immediate_name Xori = codes "xori"
immediate_name Ori = codes "ori"
immediate_name Andi = codes "andi"

abbrev pub shift_name : ShiftOp → List ℕ
shift_name Slli = codes "slli"
shift_name Srli = codes "srli"
shift_name Srai = codes "srai"

abbrev pub register_name : RegisterOp → List ℕ
register_name Add = codes "add"
register_name Sub = codes "sub"
register_name Sll = codes "sll"
register_name Slt = codes "slt"
register_name Sltu = codes "sltu"
register_name Xor = codes "xor"
register_name Srl = codes "srl"
register_name Sra = codes "sra"
register_name Or = codes "or"
register_name And = codes "and"

abbrev pub mul_div_name : MulDivOp → List ℕ
mul_div_name Mul = codes "mul"
mul_div_name Mulh = codes "mulh"
mul_div_name Mulhsu = codes "mulhsu"
mul_div_name Mulhu = codes "mulhu"
mul_div_name Div = codes "div"
mul_div_name Divu = codes "divu"
mul_div_name Rem = codes "rem"
mul_div_name Remu = codes "remu"

abbrev pub amo_name : AmoKind → List ℕ
amo_name kinds.Swap = codes "amoswap"
amo_name kinds.Add = codes "amoadd"
amo_name kinds.Xor = codes "amoxor"
amo_name kinds.And = codes "amoand"
amo_name kinds.Or = codes "amoor"
amo_name kinds.Min = codes "amomin"
amo_name kinds.Max = codes "amomax"
amo_name kinds.Minu = codes "amominu"
amo_name kinds.Maxu = codes "amomaxu"

abbrev pub atomic_name : AtomicOp → List ℕ
atomic_name LoadReserved = codes "lr"
atomic_name StoreConditional = codes "sc"
atomic_name (Amo kind) = amo_name kind

-- the width of an atomic, which is a word, and its ordering bits
abbrev pub width_and_bits : Bool → Bool → List ℕ
width_and_bits false false = codes "w"
width_and_bits true false = codes "w.aq"
width_and_bits false true = codes "w.rl"
width_and_bits true true = codes "w.aqrl"

abbrev pub ordering_name : Ordering → List ℕ
ordering_name ordering = width_and_bits ordering.aq ordering.rl

abbrev pub mnemonic_name : Mnemonic → List ℕ
mnemonic_name Lui = codes "lui"
mnemonic_name Auipc = codes "auipc"
mnemonic_name Jal = codes "jal"
mnemonic_name Jalr = codes "jalr"
mnemonic_name (Branch op) = branch_name op
mnemonic_name (Load op) = load_name op
mnemonic_name (Store op) = store_name op
mnemonic_name (Immediate op) = immediate_name op
mnemonic_name (Shift op) = shift_name op
mnemonic_name (Register op) = register_name op
mnemonic_name (MulDiv op) = mul_div_name op
mnemonic_name Fence = codes "fence"
mnemonic_name InstructionFence = codes "fence.i"
mnemonic_name Ecall = codes "ecall"
mnemonic_name Ebreak = codes "ebreak"
mnemonic_name (Atomic op ordering) = atomic_name op ++ 46 ∷ ordering_name ordering  -- 46 is '.'
