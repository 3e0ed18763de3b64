use Rattle.std.proofs.Common.{◌≡◌, Some, None, pos, refl, false}
use Rattle.rv_instr.specs.{declared.instr.ImmediateOp.TheVariants.Addi, declared.instr.MulDivOp.TheVariants.Mul}
use Rattle.rv_instr.specs.declared.instr.Instr.TheVariants.{Immediate, MulDiv, Ecall, LoadReserved, StoreConditional}
use Rattle.rv_instr.specs.Decode.{decoded, immediate_of, immediate_op, register_of, muldiv_of, muldiv_op, system_of}
use Rattle.rv_instr.specs.Decode.{atomic_of, load_reserved_of, store_conditional_of}

-- Worked rows: the words of small programs, by hand, and words that are no row.

-- addi x10,x0,5
addi_five : decoded 0x00500513 ≡ Some (Immediate Addi 10 0 (pos 5))
unfolding decoded immediate_of immediate_op
addi_five = refl

-- addi x17,x0,93
addi_exit : decoded 0x05D00893 ≡ Some (Immediate Addi 17 0 (pos 93))
unfolding decoded immediate_of immediate_op
addi_exit = refl

ecall : decoded 0x00000073 ≡ Some Ecall
unfolding decoded system_of
ecall = refl

-- nop
nop : decoded 0x00000013 ≡ Some (Immediate Addi 0 0 (pos 0))
unfolding decoded immediate_of immediate_op
nop = refl

-- mul x5,x6,x7
mul : decoded 0x027302B3 ≡ Some (MulDiv Mul 5 6 7)
unfolding decoded register_of muldiv_of muldiv_op
mul = refl

-- lr.w x5,(x6)
load_reserved : decoded 0x100322AF ≡ Some (LoadReserved 5 6 (record { aq = false; rl = false }))
unfolding decoded atomic_of load_reserved_of
load_reserved = refl

-- sc.w x5,x7,(x6)
store_conditional : decoded 0x187322AF ≡ Some (StoreConditional 5 6 7 (record { aq = false; rl = false }))
unfolding decoded atomic_of store_conditional_of
store_conditional = refl

-- LR with rs2 not 0
load_reserved_with_rs2 : decoded 0x101322AF ≡ None
unfolding decoded atomic_of load_reserved_of
load_reserved_with_rs2 = refl

zeros : decoded 0x00000000 ≡ None
unfolding decoded
zeros = refl

ones : decoded 0xFFFFFFFF ≡ None
unfolding decoded
ones = refl
