-- A number into a register, and distances between words.
use Rattle.std.specs.Prelude.{ℕ, ◌+◌, ◌*◌, ◌/◌, ◌%◌, ◌^◌, ℤ, pos, ◌-ℤ◌, List, [], ◌∷◌}
use Rattle.rv_instr.specs.declared.instr.{Instr.Instr}
use Rattle.rv_instr.specs.declared.instr.ImmediateOp.TheVariants.{Addi}
use Rattle.rv_instr.specs.declared.instr.Instr.TheVariants as instr

-- LUI gives the upper twenty bits, and ADDI adds the lower twelve, which it takes as a signed number: where that is
-- negative, the upper part is one more. [RISC-V Assembly Programmer's Manual, "li"]
abbrev pub lower_part : ℕ → ℤ
lower_part value = pos ((value + 2 ^ 11) % 2 ^ 12) -ℤ pos (2 ^ 11)

abbrev pub upper_part : ℕ → ℕ
upper_part value = (value + 2 ^ 11) / 2 ^ 12 * 2 ^ 12 % 2 ^ 32

-- Always two words, so that the size of a step is known without its number.
unfoldable pub constant_words : ℕ → ℕ → List Instr
constant_words register value =
    instr.Lui register (upper_part value) ∷ instr.Immediate Addi register register (lower_part value) ∷ []

-- How many bytes it is from the word with one number to the word with another.
abbrev pub distance : ℕ → ℕ → ℤ
distance here there = pos (4 * there) -ℤ pos (4 * here)

-- How many words a jump reaches either way: JAL's offset has 21 bits, a sign among them, and is in bytes.
abbrev pub jump_reach : ℕ
jump_reach = 262143

-- A jump from the one to the other.
abbrev pub jump_words : ℕ → ℕ → List Instr
jump_words here there = instr.Jal 0 (distance here there) ∷ []
