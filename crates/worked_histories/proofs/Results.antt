-- What instructions compute: words of each group with their operands and results, found by hand from the manual.
-- [RISC-V Unprivileged ISA, chapters "RV32I", "M" and "A"; calls and stops are this project's own choice]
use Rattle.std.specs.Prelude.{◌≡◌, ℕ, List, [], ◌∷◌, map, Option, Some, None, refl}
use Rattle.rv_instr.specs.{Decode.op_of_word, declared.op.Op.Op, declared.op.Op.TheVariants.Known}
use Rattle.rv_instr.specs.{declared.op.Op.TheVariants.Illegal, declared.op.Op.TheVariants.NoWord}
use Rattle.events.specs.{declared.effect.Next.Next, declared.effect.Next.TheVariants.Pc}
use Rattle.events.specs.{declared.effect.Next.TheVariants.Ended, declared.effect.Next.TheVariants.Stopped}
use Rattle.smt_model.specs.{Exec.Computed, Exec.computed_of, Effects.atomic_result}
use Rattle.worked_histories.proofs.Histories.{instructions}

-- What a word computes at a pc, with the numbers of its two sources; none where it is no instruction.
abbrev computed : Op → ℕ → ℕ → ℕ → Option Computed
computed (Known i) pc a b = Some (computed_of i pc a b)
computed Illegal pc a b = None
computed NoWord pc a b = None

abbrev value_of : Option Computed → Option ℕ
value_of None = None
value_of (Some c) = Some c.value

abbrev next_of : Option Computed → Option Next
next_of None = None
next_of (Some c) = Some c.next

-- Its number, where it stands at the entry.
abbrev value : ℕ → ℕ → ℕ → Option ℕ
value word a b = value_of (computed (op_of_word (Some word)) 0x80000000 a b)

-- What comes after it at this pc.
abbrev next : ℕ → ℕ → ℕ → ℕ → Option Next
next word pc a b = next_of (computed (op_of_word (Some word)) pc a b)

-- All of it, at this pc.
abbrev all : ℕ → ℕ → ℕ → ℕ → Option Computed
all word pc a b = computed (op_of_word (Some word)) pc a b

-- ---- LUI, AUIPC, JAL, JALR

-- lui x6,0x80001; auipc x6,0; auipc x5,0x80000, which wraps
upper_immediates :
    value 0x80001337 0 0 ∷ value 0x00000317 0 0 ∷ value 0x80000297 0 0 ∷ []
    ≡ Some 0x80001000 ∷ Some 0x80000000 ∷ Some 0 ∷ []
unfolding instructions
upper_immediates = refl

-- jal x1,0x80000010 at the entry: the number is the pc behind it.
jump :
    all 0x010000ef 0x80000000 0 0
    ≡ Some (record { value = 0x80000004; next = Pc 0x80000010; addr = 0; datum = 0; out = None })
unfolding instructions
jump = refl

-- jal x0,-4: backwards.
jump_back : next 0xffdff06f 0x80000008 0 0 ≡ Some (Pc 0x80000004)
unfolding instructions
jump_back = refl

-- jal x5,2: the target is no multiple of 4, so the hart stops at the jump.
jump_to_a_half_word : next 0x002002ef 0x80000000 0 0 ≡ Some (Stopped 0)
unfolding instructions
jump_to_a_half_word = refl

-- jalr x1,8(x5): bit 0 of the sum is cleared, and only then the target is judged; the sum wraps.
jumps_to_registers :
    map (λ a. next 0x008280e7 0x80000000 a 0) (0x80000000 ∷ 0x80000001 ∷ 0x80000002 ∷ 0x80000003 ∷ 0xfffffffc ∷ [])
    ≡ Some (Pc 0x80000008) ∷ Some (Pc 0x80000008) ∷ Some (Stopped 0) ∷ Some (Stopped 0) ∷ Some (Pc 4) ∷ []
unfolding instructions
jumps_to_registers = refl

-- ---- Branches

-- bne x10,x0 to 16 behind, at 80000004: taken and not taken.
branch_not_equal :
    next 0x00051863 0x80000004 1 0 ∷ next 0x00051863 0x80000004 0 0 ∷ []
    ≡ Some (Pc 0x80000014) ∷ Some (Pc 0x80000008) ∷ []
unfolding instructions
branch_not_equal = refl

-- bne x28,x0 to 8 before, at 80000014
branch_back : next 0xfe0e1ce3 0x80000014 1 0 ≡ Some (Pc 0x8000000c)
unfolding instructions
branch_back = refl

-- beq x0,x0 to 2 behind stops, and bne x0,x0, which isn't taken, does not.
branch_to_a_half_word :
    next 0x00000163 0x80000000 0 0 ∷ next 0x00001163 0x80000000 0 0 ∷ [] ≡ Some (Stopped 0) ∷ Some (Pc 0x80000004) ∷ []
unfolding instructions
branch_to_a_half_word = refl

-- BEQ, BNE, BLT, BGE, BLTU and BGEU of x5 and x6 to 8 behind.
abbrev branches : ℕ → ℕ → List (Option Next)
branches a b =
    map (λ word. next word 0x80000000 a b) (0x00628463 ∷ 0x00629463 ∷ 0x0062c463 ∷ 0x0062d463 ∷ 0x0062e463
    ∷ 0x0062f463 ∷ [])

abbrev taken : Option Next
taken = Some (Pc 0x80000008)

abbrev not_taken : Option Next
not_taken = Some (Pc 0x80000004)

-- Of -1 and 0, the first is less with a sign and greater without.
branches_of_minus_one : branches 0xffffffff 0 ≡ not_taken ∷ taken ∷ taken ∷ not_taken ∷ not_taken ∷ taken ∷ []
unfolding instructions
branches_of_minus_one = refl

-- Of equals, those that hold of equals are taken.
branches_of_equals : branches 5 5 ≡ taken ∷ not_taken ∷ not_taken ∷ taken ∷ not_taken ∷ taken ∷ []
unfolding instructions
branches_of_equals = refl

-- ---- With an immediate

-- addi x5,x6,-1; slti and sltiu x5,x6,-1; xori x5,x5,4; ori x5,x6,-16; andi x5,x6,255
immediates :
    value 0xfff30293 0 0 ∷ value 0xfff32293 0 0 ∷ value 0xfff33293 0 0 ∷ value 0x0042c293 5 0
    ∷ value 0xff036293 3 0 ∷ value 0x0ff37293 0x12345678 0 ∷ []
    ≡ Some 0xffffffff ∷ Some 0 ∷ Some 1 ∷ Some 1 ∷ Some 0xfffffff3 ∷ Some 0x78 ∷ []
unfolding instructions
immediates = refl

-- slli x5,x10,2; srli x8,x8,8; srai x5,x6,4
shifts :
    value 0x00251293 0x40000001 0 ∷ value 0x00845413 0x00000fa0 0 ∷ value 0x40435293 0x80000000 0 ∷ []
    ≡ Some 4 ∷ Some 0xf ∷ Some 0xf8000000 ∷ []
unfolding instructions
shifts = refl

-- ---- Of two registers: ADD, SUB, SLL, SLT, SLTU, XOR, SRL, SRA, OR and AND x5,x6,x7

abbrev of_two : ℕ → ℕ → List (Option ℕ)
of_two a b =
    map (λ word. value word a b) (
    0x007302b3 ∷ 0x407302b3 ∷ 0x007312b3 ∷ 0x007322b3 ∷ 0x007332b3
    ∷ 0x007342b3 ∷ 0x007352b3 ∷ 0x407352b3 ∷ 0x007362b3 ∷ 0x007372b3 ∷ []
    )

-- A shift by 33 is one by 1.
of_minus_two_and_33 :
    of_two 0xfffffffe 33
    ≡ Some 0x0000001f ∷ Some 0xffffffdd ∷ Some 0xfffffffc ∷ Some 1 ∷ Some 0
    ∷ Some 0xffffffdf ∷ Some 0x7fffffff ∷ Some 0xffffffff ∷ Some 0xffffffff ∷ Some 0x00000020 ∷ []
unfolding instructions
of_minus_two_and_33 = refl

-- ---- Products and quotients: MUL, MULH, MULHSU, MULHU, DIV, DIVU, REM and REMU x5,x6,x7

abbrev products : ℕ → ℕ → List (Option ℕ)
products a b =
    map (λ word. value word a b) (
    0x027302b3 ∷ 0x027312b3 ∷ 0x027322b3 ∷ 0x027332b3 ∷ 0x027342b3 ∷ 0x027352b3 ∷ 0x027362b3 ∷ 0x027372b3 ∷ []
    )

-- Of -1 and -1.
products_of_minus_one :
    products 0xffffffff 0xffffffff
    ≡ Some 1 ∷ Some 0 ∷ Some 0xffffffff ∷ Some 0xfffffffe ∷ Some 1 ∷ Some 1 ∷ Some 0 ∷ Some 0 ∷ []
unfolding instructions
products_of_minus_one = refl

-- Of 7 and 0: the quotient is all ones, the remainder 7.
products_with_zero :
    products 7 0
    ≡ Some 0 ∷ Some 0 ∷ Some 0 ∷ Some 0 ∷ Some 0xffffffff ∷ Some 0xffffffff ∷ Some 7 ∷ Some 7 ∷ []
unfolding instructions
products_with_zero = refl

-- Of -2 ^ 31 and -1: the signed quotient does not fit, and is -2 ^ 31 with remainder 0.
products_that_overflow :
    products 0x80000000 0xffffffff
    ≡ Some 0x80000000 ∷ Some 0 ∷ Some 0x80000000 ∷ Some 0x7fffffff
    ∷ Some 0x80000000 ∷ Some 0 ∷ Some 0 ∷ Some 0x80000000 ∷ []
unfolding instructions
products_that_overflow = refl

-- Of -7 and 2: a quotient is rounded toward zero, and the remainder has the sign of -7.
quotients_toward_zero :
    products 0xfffffff9 2
    ≡ Some 0xfffffff2 ∷ Some 0xffffffff ∷ Some 0xffffffff ∷ Some 1
    ∷ Some 0xfffffffd ∷ Some 0x7ffffffc ∷ Some 0xffffffff ∷ Some 1 ∷ []
unfolding instructions
quotients_toward_zero = refl

-- ---- What is handed to memory

-- lw x8,4(x6) and lw x5,-4(x6): the address wraps.
addresses :
    all 0x00432403 0x80000000 0xfffffffe 0 ∷ all 0xffc32283 0x80000000 0x80001000 0 ∷ []
    ≡ Some (record { value = 0; next = Pc 0x80000004; addr = 2; datum = 0; out = None })
    ∷ Some (record { value = 0; next = Pc 0x80000004; addr = 0x80000ffc; datum = 0; out = None }) ∷ []
unfolding instructions
addresses = refl

-- sb x7,1(x6), sh x7,2(x6) and sw x7,4(x6) hand over the low byte, half and all of x7.
stored_data :
    all 0x007300a3 0x80000000 0x80001000 0x11223344 ∷ all 0x00731123 0x80000000 0x80001000 0x11223344
    ∷ all 0x00732223 0x80000000 0x80001000 0x11223344 ∷ []
    ≡ Some (record { value = 0; next = Pc 0x80000004; addr = 0x80001001; datum = 0x44; out = None })
    ∷ Some (record { value = 0; next = Pc 0x80000004; addr = 0x80001002; datum = 0x3344; out = None })
    ∷ Some (record { value = 0; next = Pc 0x80000004; addr = 0x80001004; datum = 0x11223344; out = None }) ∷ []
unfolding instructions
stored_data = refl

-- sc.w x7,x10,(x6) and amoadd.w x0,x5,(x6) hand over all of the second register; lr.w x5,(x6) nothing.
atomic_data :
    all 0x18a323af 0x80000000 0x80001000 0x11223344 ∷ all 0x0053202f 0x80000000 0x80001000 0x11223344
    ∷ all 0x100322af 0x80000000 0x80001000 0 ∷ []
    ≡ Some (record { value = 0; next = Pc 0x80000004; addr = 0x80001000; datum = 0x11223344; out = None })
    ∷ Some (record { value = 0; next = Pc 0x80000004; addr = 0x80001000; datum = 0x11223344; out = None })
    ∷ Some (record { value = 0; next = Pc 0x80000004; addr = 0x80001000; datum = 0; out = None }) ∷ []
unfolding instructions
atomic_data = refl

-- AMOMIN, AMOMINU, AMOMAX, AMOMAXU, AMOADD, AMOSWAP, AMOXOR, AMOOR and AMOAND x5,x7,(x6), where -1 was and x7 is 1.
atomic_results :
    map (λ word. atomic_result (op_of_word (Some word)) 0xffffffff 1) (
    0x807322af ∷ 0xc07322af ∷ 0xa07322af ∷ 0xe07322af ∷ 0x007322af ∷ 0x087322af ∷ 0x207322af ∷ 0x407322af
    ∷ 0x607322af ∷ []
    )
    ≡ 0xffffffff ∷ 1 ∷ 1 ∷ 0xffffffff ∷ 0 ∷ 1 ∷ 0xfffffffe ∷ 0xffffffff ∷ 1 ∷ []
unfolding instructions
atomic_results = refl

-- ---- The rest

-- fence goes on, ebreak stops.
fence_and_break :
    next 0x0ff0000f 0x80000000 0 0 ∷ next 0x00100073 0x80000000 0 0 ∷ []
    ≡ Some (Pc 0x80000004) ∷ Some (Stopped 3) ∷ []
unfolding instructions
fence_and_break = refl

-- ecall: 93 ends the hart with the argument, any other number but 1 stops it.
calls :
    map (λ number. next 0x00000073 0x80000000 number 5) (93 ∷ 1 ∷ 0 ∷ 2 ∷ 0xffffffff ∷ [])
    ≡ Some (Ended 5) ∷ Some (Pc 0x80000004) ∷ Some (Stopped 8) ∷ Some (Stopped 8) ∷ Some (Stopped 8) ∷ []
unfolding instructions
calls = refl

-- The call 1 puts out the argument's low byte.
output_of_a_call :
    all 0x00000073 0x80000000 1 0x12345678
    ≡ Some (record { value = 0; next = Pc 0x80000004; addr = 0; datum = 0; out = Some 0x78 })
unfolding instructions
output_of_a_call = refl
