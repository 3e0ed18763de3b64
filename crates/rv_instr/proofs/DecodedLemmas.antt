use Rattle.std.proofs.Common.{ℕ, ◌<◌, Bool, true, false, Option, Some, None, IfSome, option_and_then, if◌then◌else◌}
use Rattle.std.proofs.Common.{rules}
use Rattle.rv_instr.specs.{declared.instr.Instr.Instr, declared.op.Op.Op}
use Rattle.rv_instr.specs.Fields.{imm_i, imm_s, imm_b, imm_j, imm_u}
use Rattle.rv_instr.specs.Table.{IsSigned, IsDistance, IsUpper, IsInstructionInRange, OpInRange}
use Rattle.rv_instr.specs.Decode.{decoded, branch_of, jalr_of, load_of, store_of, immediate_of, shift_of, register_of}
use Rattle.rv_instr.specs.Decode.{muldiv_of, fence_of, system_of, atomic_of, load_reserved_of, store_conditional_of}
use Rattle.rv_instr.specs.Decode.{amo_of, op_of_instr, op_of_word}
use Rattle.rv_instr.specs.Registers.{rd_of, rs1_of, rs2_of, op_rd, op_rs1, op_rs2}

-- What is found at a pc is in range.

InRangeOrNone : Option Instr → Type 0
InRangeOrNone o = OpInRange (op_of_instr o)

-- each immediate is

i_in_range : (word : ℕ) → IsSigned 12 (imm_i word)
i_in_range word = search rules

s_in_range : (word : ℕ) → IsSigned 12 (imm_s word)
s_in_range word = search rules

b_in_range : (word : ℕ) → IsDistance 13 (imm_b word)
b_in_range word = search rules

j_in_range : (word : ℕ) → IsDistance 21 (imm_j word)
j_in_range word = search rules

u_in_range : (word : ℕ) → IsUpper (imm_u word)
u_in_range word = search rules

-- each step by which `decoded` is made keeps it

either : (test : Bool) (x y : Option Instr) → InRangeOrNone x → InRangeOrNone y → InRangeOrNone (if test then x else y)
either true x y p q = p
either false x y p q = q

after : {A : Type 0} (o : Option A) (f : A → Option Instr) → ((a : A) → InRangeOrNone (f a))
    → InRangeOrNone (option_and_then f o)
unfolding InRangeOrNone op_of_instr
after (Some a) f p = p a
after None f p = tt

some : (instr : Instr) → IsInstructionInRange instr → InRangeOrNone (Some instr)
unfolding InRangeOrNone op_of_instr
some instr p = p

none : InRangeOrNone None
unfolding InRangeOrNone op_of_instr
none = tt

ruleset steps = (rules, either, after, some, none, i_in_range, s_in_range, b_in_range, j_in_range, u_in_range)

jalr : (word : ℕ) → InRangeOrNone (jalr_of word)
unfolding jalr_of
jalr word = search steps

branch : (word : ℕ) → InRangeOrNone (branch_of word)
unfolding branch_of
branch word = search steps

load : (word : ℕ) → InRangeOrNone (load_of word)
unfolding load_of
load word = search steps

store : (word : ℕ) → InRangeOrNone (store_of word)
unfolding store_of
store word = search steps

shift : (word : ℕ) → InRangeOrNone (shift_of word)
unfolding shift_of
shift word = search steps

immediate : (word : ℕ) → InRangeOrNone (immediate_of word)
unfolding immediate_of
immediate word = search (steps, shift)

muldiv : (word : ℕ) → InRangeOrNone (muldiv_of word)
unfolding muldiv_of
muldiv word = search steps

register : (word : ℕ) → InRangeOrNone (register_of word)
unfolding register_of
register word = search (steps, muldiv)

fence : (word : ℕ) → InRangeOrNone (fence_of word)
unfolding fence_of
fence word = search steps

system : (word : ℕ) → InRangeOrNone (system_of word)
unfolding system_of
system word = search steps

load_reserved : (word : ℕ) → InRangeOrNone (load_reserved_of word)
unfolding load_reserved_of
load_reserved word = search steps

store_conditional : (word : ℕ) → InRangeOrNone (store_conditional_of word)
unfolding store_conditional_of
store_conditional word = search steps

amo : (word : ℕ) → InRangeOrNone (amo_of word)
unfolding amo_of
amo word = search steps

atomic : (word : ℕ) → InRangeOrNone (atomic_of word)
unfolding atomic_of
atomic word = search (steps, load_reserved, store_conditional, amo)

decoded_in_range : (word : ℕ) → InRangeOrNone (decoded word)
unfolding decoded
decoded_in_range word =
    search (
      rules,
      either,
      some,
      none,
      j_in_range,
      u_in_range,
      jalr,
      branch,
      load,
      store,
      immediate,
      register,
      fence,
      system,
      atomic,
    ) depth 30

pub op_of_word_in_range : (word : Option ℕ) → OpInRange (op_of_word word)
unfolding op_of_word InRangeOrNone
op_of_word_in_range (Some word) = decoded_in_range word
op_of_word_in_range None = tt

-- The registers of what is in range are below 32.

pub op_rd_below : (op : Op) → OpInRange op → IfSome (op_rd op) (λ r. r < 32)
unfolding op_rd rd_of
op_rd_below op p = search rules

pub op_rs1_below : (op : Op) → OpInRange op → IfSome (op_rs1 op) (λ r. r < 32)
unfolding op_rs1 rs1_of
op_rs1_below op p = search rules

pub op_rs2_below : (op : Op) → OpInRange op → IfSome (op_rs2 op) (λ r. r < 32)
unfolding op_rs2 rs2_of
op_rs2_below op p = search rules
