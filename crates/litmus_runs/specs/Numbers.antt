-- The numbers of a litmus test, as words.
use Rattle.std.specs.Prelude.{ℕ, ◌%◌, ◌^◌, Option, slice_get}
use Rattle.std.specs.Option.{option_map}
use Rattle.litmus_tests.specs.declared.{value.Value.Value, test.LitmusTest.LitmusTest}
use Rattle.litmus_tests.specs.Conditions.{number_of}

-- The word that a value is: its number, where the address is a word.
abbrev pub word_of : Value → ℕ
word_of value = number_of value % 2 ^ 32

-- The number that a word of the locations has at the start.
abbrev pub initial_number : LitmusTest → ℕ → Option ℕ
initial_number test word = option_map word_of (slice_get test.words.items word)
