-- The free list as a flag for each physical register.
use Rattle.std.specs.Prelude.{◌≡◌, ℕ, ◌/◌, ◌%◌, ◌<◌, ◌==◌, Bool, true, false, List, map}
use Rattle.std.specs.Prelude.{slice_index, slice_index_or}
use Rattle.std.specs.{List.range_with_len, Int.bit_at}
use Rattle.numbers.specs.Sizes.{most_registers}

-- the register's bit in a list of words of 64 bits is set
abbrev pub is_bit_set : List ℕ → ℕ → Bool
is_bit_set words p = bit_at (slice_index words (p / 64)) (p % 64) == 1

-- the words that have a bit for each register
abbrev pub word_count : ℕ
word_count = most_registers / 64

-- the flags of the registers below the most
unfoldable pub flags : List ℕ → List Bool
flags words = map (is_bit_set words) (range_with_len 0 most_registers)

-- the register is free
abbrev pub holds : List Bool → ℕ → Bool
holds free p = slice_index_or free p false

-- p is the free register of the least number
pub record IsLeast (free : List Bool) (p : ℕ) : Type 0 where
  pub range : p < most_registers
  pub is_free : holds free p ≡ true
  pub least : (q : ℕ) → q < p → holds free q ≡ false
