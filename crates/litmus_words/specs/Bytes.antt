-- The bytes of a word.
use Rattle.std.specs.Prelude.{ℕ, Bool, if◌then◌else◌, nat_lt, List, [], length, slice_range, bytes_eq}
use Rattle.litmus_words.specs.declared.word.Word.{Word}

-- None where it isn't one of the text.
abbrev pub bytes_in : List ℕ → Word → List ℕ
bytes_in text word = if nat_lt word.end word.start then []
    else (if nat_lt (length text) word.end then [] else slice_range text word.start word.end)

-- Both words have the same.
abbrev pub same_bytes : List ℕ → Word → Word → Bool
same_bytes text first second = bytes_eq (bytes_in text first) (bytes_in text second)
