-- What the words of the locations hold at the start: a number of 32 bits, or several narrower ones side by side, the
-- lowest first.
use Rattle.std.specs.Prelude.{ℕ, suc, zero, ◌+◌, ◌*◌, ◌/◌, ◌%◌, if◌then◌else◌, nat_lt, List, [], ◌∷◌, ◌++◌}
use Rattle.watched_outcomes.specs.declared.watch.Width.{Width}
use Rattle.watched_outcomes.specs.declared.watch.Width.TheVariants.{Byte, Half, Word}
use Rattle.litmus_tests.specs.declared.value.Value.{Value}
use Rattle.litmus_tests.specs.declared.value.Value.TheVariants.{Number, Address}
use Rattle.litmus_words.specs.declared.word.Declared.{Declared}
use Rattle.litmus_reading.specs.declared.locations.Named.{Named}
use Rattle.litmus_reading.specs.declared.start.Entry.{Entry}
use Rattle.litmus_reading.specs.Names.{elements_of}
use Rattle.litmus_reading.specs.Starts.{initial_of}

-- The number of an element of a location or of an array, 0 where there aren't so many.
abbrev pub number_in : Value → ℕ
number_in (Number number) = number
number_in (Address byte) = 0

abbrev pub number_at : List Entry → Declared → ℕ → ℕ
number_at entries declared element = if nat_lt element (elements_of declared)
    then number_in (initial_of entries (declared.first + element)) else 0

-- Two bytes, and two halves.
abbrev pub half_at : List Entry → Declared → ℕ → ℕ
half_at entries declared element =
    number_at entries declared element % 256 + 256 * (number_at entries declared (element + 1) % 256)

abbrev pub word_of_halves : ℕ → ℕ → Value
word_of_halves low high = Number (low + 65536 * high)

-- A word, by its index.
abbrev pub word_of_width : Width → List Entry → Declared → ℕ → Value
word_of_width Byte entries declared word =
    word_of_halves (half_at entries declared (4 * word)) (half_at entries declared (4 * word + 2))
word_of_width Half entries declared word = word_of_halves (number_at entries declared (2 * word) % 65536)
    (number_at entries declared (2 * word + 1) % 65536)
word_of_width Word entries declared word = initial_of entries (declared.first + word)

abbrev pub word_at : List Entry → Declared → ℕ → Value
word_at entries declared word = word_of_width declared.number_type.width entries declared word

-- So many of them, from this one on; all of a location or of an array; all.
abbrev pub words_from : ℕ → List Entry → Declared → ℕ → List Value
words_from zero entries declared word = []
words_from (suc more) entries declared word =
    word_at entries declared word ∷ words_from more entries declared (word + 1)

abbrev pub word_count : Declared → ℕ
word_count declared = (declared.size + 3) / 4

-- How many words all names have.
abbrev pub word_total : List Named → ℕ
word_total [] = 0
word_total (name ∷ names) = word_count name.declared + word_total names

abbrev pub words_of : List Entry → Declared → List Value
words_of entries declared = words_from (word_count declared) entries declared 0

abbrev pub memory_of : List Entry → List Named → List Value
memory_of entries [] = []
memory_of entries (name ∷ names) = words_of entries name.declared ++ memory_of entries names
