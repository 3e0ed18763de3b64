-- What becomes of words that ask for no line. (This project's own choice.)
use Rattle.std.specs.Prelude.{◌≡◌, ◌⊎◌, ℕ, List, Option, string_bytes}
use Rattle.std.specs.Io.KnownBytes.{Appends}
use Rattle.std.specs.{declared.io.ErrorKind.ErrorKind}
use Rattle.std.specs.{declared.io.ErrorKind.TheVariants.OutOfMemory}
use Rattle.sim_inputs.specs.{declared.line.WordsRefused.WordsRefused}
use Rattle.sim_inputs.specs.declared.line.WordsRefused.TheVariants as words

-- Why words are refused whose reading failed for a reason of this kind.
abbrev pub words_refused : ErrorKind → WordsRefused
words_refused OutOfMemory = words.Memory
words_refused _ = words.Refused

-- The exit status of words that ask for no line: 0 for help and the version, or 5 where the output takes no more.
abbrev pub IsWordsStatus : WordsRefused → ℕ → Type 0
IsWordsStatus (words.Help text) status = (status ≡ 0) ⊎ (status ≡ 5)
IsWordsStatus (words.Version text) status = (status ≡ 0) ⊎ (status ≡ 5)
IsWordsStatus words.Refused status = status ≡ 2
IsWordsStatus words.Memory status = status ≡ 5

-- What was printed of such words: help or the version behind status 0; and nothing where the words are refused.
abbrev pub HaveTold : WordsRefused → Option (List ℕ) → Option (List ℕ) → ℕ → Type 0
HaveTold (words.Help text) old new status = status ≡ 0 → Appends old new (string_bytes text)
HaveTold (words.Version text) old new status = status ≡ 0 → Appends old new (string_bytes text)
HaveTold words.Refused old new status = new ≡ old
HaveTold words.Memory old new status = new ≡ old
