use Rattle.std.specs.Prelude.{ℕ, ◌+◌, ◌*◌, ◌/◌, ◌%◌, ◌^◌, ◌-◌, nat_lt, ◌==◌, ℤ, pos, ◌-ℤ◌}
use Rattle.std.specs.Prelude.{if◌then◌else◌}
use Rattle.rv_instr.specs.declared.instr.Ordering.{Ordering}

-- The fields of an instruction word (RISC-V Unprivileged ISA, chapter "RV32I", section "Base
-- Instruction Formats").

-- the `len` bits of a word that begin at bit `low`
abbrev pub bits_at : ℕ → ℕ → ℕ → ℕ
bits_at word low len = word / 2 ^ low % 2 ^ len

abbrev pub opcode_at : ℕ → ℕ
opcode_at word = bits_at word 0 7

abbrev pub rd_at : ℕ → ℕ
rd_at word = bits_at word 7 5

abbrev pub funct3_at : ℕ → ℕ
funct3_at word = bits_at word 12 3

abbrev pub rs1_at : ℕ → ℕ
rs1_at word = bits_at word 15 5

abbrev pub rs2_at : ℕ → ℕ
rs2_at word = bits_at word 20 5

abbrev pub funct7_at : ℕ → ℕ
funct7_at word = bits_at word 25 7

-- of an atomic: the operation, above the two ordering bits
abbrev pub funct5_at : ℕ → ℕ
funct5_at word = bits_at word 27 5

abbrev pub ordering_at : ℕ → Ordering
ordering_at word = record { aq = bits_at word 26 1 == 1; rl = bits_at word 25 1 == 1 }

-- the number that `len` bits spell in two's complement
abbrev pub signed_of : ℕ → ℕ → ℤ
signed_of len bits = if nat_lt bits (2 ^ (len - 1)) then pos bits else (pos bits -ℤ pos (2 ^ len))

-- The immediates of the five forms (section "Immediate Encoding Variants").

abbrev pub imm_i : ℕ → ℤ
imm_i word = signed_of 12 (bits_at word 20 12)

abbrev pub imm_s : ℕ → ℤ
imm_s word = signed_of 12 (bits_at word 25 7 * 2 ^ 5 + bits_at word 7 5)

abbrev pub imm_b : ℕ → ℤ
imm_b word = signed_of 13
    (bits_at word 31 1 * 2 ^ 12 + bits_at word 7 1 * 2 ^ 11 + bits_at word 25 6 * 2 ^ 5
    + bits_at word 8 4 * 2)

abbrev pub imm_u : ℕ → ℕ
imm_u word = bits_at word 12 20 * 2 ^ 12

abbrev pub imm_j : ℕ → ℤ
imm_j word = signed_of 21
    (bits_at word 31 1 * 2 ^ 20 + bits_at word 12 8 * 2 ^ 12 + bits_at word 20 1 * 2 ^ 11
    + bits_at word 21 10 * 2)
