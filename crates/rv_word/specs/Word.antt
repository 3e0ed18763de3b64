-- What the operations of RV32IM and of its atomics make of two words (RISC-V Unprivileged ISA,
-- chapters "RV32I", "M" and "A").
-- A word is a whole number below 2 ^ 32. Read without a sign it is that number; read with a sign it
-- is `signed` of it.
use Rattle.std.specs.Prelude.{ℕ, ◌+◌, ◌-◌, ◌*◌, ◌/◌, ◌%◌, ◌^◌, ◌==◌, nat_lt, if◌then◌else◌, ℤ, pos}
use Rattle.std.specs.Prelude.{◌-ℤ◌, ◌*ℤ◌, bit_and, bit_or, bit_xor, int_div, int_rem, unsigned_abs}
use Rattle.std.specs.Prelude.{int_lt}
use Rattle.std.specs.Int.{cast_signed, w32, int_div_euclid, int_rem_euclid, int_shr, from_bool}
use Rattle.rv_word.specs.declared.amo_kind.AmoKind.{AmoKind}
use Rattle.rv_word.specs.declared.amo_kind.AmoKind.TheVariants.{Swap, Add, Xor, And, Or, Min, Max}
use Rattle.rv_word.specs.declared.amo_kind.AmoKind.TheVariants.{Minu, Maxu}

-- the number that a word is in two's complement
abbrev pub signed : ℕ → ℤ
signed word = cast_signed w32 word

-- the low 32 bits of a whole number, and the 32 bits above them
abbrev pub word_of : ℤ → ℕ
word_of z = unsigned_abs (int_rem_euclid z (pos (2 ^ 32)))

abbrev pub high_word_of : ℤ → ℕ
high_word_of z = word_of (int_div_euclid z (pos (2 ^ 32)))

-- ---- RV32I: ADD and ADDI, SUB

unfoldable pub sum_of : ℕ → ℕ → ℕ
sum_of a b = (a + b) % 2 ^ 32

unfoldable pub difference_of : ℕ → ℕ → ℕ
difference_of a b = word_of (pos a -ℤ pos b)

-- ---- SLL, SRL, SRA and the same by a constant: the low five bits of b say how far. SRA fills up
-- with the sign.

unfoldable pub left_shift_of : ℕ → ℕ → ℕ
left_shift_of a b = a * 2 ^ (b % 32) % 2 ^ 32

unfoldable pub right_shift_of : ℕ → ℕ → ℕ
right_shift_of a b = a / 2 ^ (b % 32)

unfoldable pub signed_right_shift_of : ℕ → ℕ → ℕ
signed_right_shift_of a b = word_of (int_shr (signed a) (b % 32))

-- ---- SLT and SLTI, SLTU and SLTIU: 1 where a is less, else 0

unfoldable pub signed_less_of : ℕ → ℕ → ℕ
signed_less_of a b = from_bool (int_lt (signed a) (signed b))

unfoldable pub less_of : ℕ → ℕ → ℕ
less_of a b = from_bool (nat_lt a b)

-- ---- XOR, OR, AND and the same with an immediate: bit by bit

abbrev pub exclusive_or_of : ℕ → ℕ → ℕ
exclusive_or_of a b = bit_xor a b

abbrev pub or_of : ℕ → ℕ → ℕ
or_of a b = bit_or a b

abbrev pub and_of : ℕ → ℕ → ℕ
and_of a b = bit_and a b

-- ---- M: MUL, the low word of the product; MULH, MULHSU, MULHU, the high word of that of two
-- signed numbers, of a signed and an unsigned one, of two unsigned ones

unfoldable pub product_of : ℕ → ℕ → ℕ
product_of a b = a * b % 2 ^ 32

unfoldable pub signed_high_product_of : ℕ → ℕ → ℕ
signed_high_product_of a b = high_word_of (signed a *ℤ signed b)

unfoldable pub mixed_high_product_of : ℕ → ℕ → ℕ
mixed_high_product_of a b = high_word_of (signed a *ℤ pos b)

unfoldable pub high_product_of : ℕ → ℕ → ℕ
high_product_of a b = a * b / 2 ^ 32 % 2 ^ 32

-- ---- DIV, DIVU, REM, REMU: the quotient is rounded toward zero, and the remainder has the sign of
-- a. Nothing traps:
-- by zero the quotient is the word of all ones and the remainder is a; that of -2 ^ 31 by -1 is
-- what 32 bits leave of 2 ^ 31.

unfoldable pub signed_quotient_of : ℕ → ℕ → ℕ
signed_quotient_of a b = if b == 0 then 2 ^ 32 - 1 else word_of (int_div (signed a) (signed b))

unfoldable pub quotient_of : ℕ → ℕ → ℕ
quotient_of a b = if b == 0 then 2 ^ 32 - 1 else a / b

unfoldable pub signed_remainder_of : ℕ → ℕ → ℕ
signed_remainder_of a b = if b == 0 then a else word_of (int_rem (signed a) (signed b))

unfoldable pub remainder_of : ℕ → ℕ → ℕ
remainder_of a b = if b == 0 then a else a % b

-- ---- A: the word that AMOSWAP.W, AMOADD.W and so on write where `old` was, with the operand that
-- rs2 holds

unfoldable pub atomic_result_of : AmoKind → ℕ → ℕ → ℕ
atomic_result_of Swap old operand = operand
atomic_result_of Add old operand = sum_of old operand
atomic_result_of Xor old operand = exclusive_or_of old operand
atomic_result_of And old operand = and_of old operand
atomic_result_of Or old operand = or_of old operand
atomic_result_of Min old operand = if int_lt (signed operand) (signed old) then operand else old
atomic_result_of Max old operand = if int_lt (signed old) (signed operand) then operand else old
atomic_result_of Minu old operand = if nat_lt operand old then operand else old
atomic_result_of Maxu old operand = if nat_lt old operand then operand else old

-- ---- sign extension

-- the word that has the low `bits` bits of v, and above them copies of the highest of these: `bits`
-- is 1 to 32
unfoldable pub sign_extended : ℕ → ℕ → ℕ
sign_extended v bits =
    let low = v % 2 ^ bits in if nat_lt low (2 ^ (bits - 1)) then low else low + (2 ^ 32 - 2 ^ bits)
