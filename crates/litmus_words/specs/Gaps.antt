-- What stands between words: blanks, line ends and comments.
use Rattle.std.specs.Prelude.{◌≡◌, ◌⊎◌, ℕ, ◌+◌, ◌≤◌, ◌<◌, true, false, List, [], ◌∷◌, length, slice_index}
use Rattle.std.specs.Char.{is_ascii_whitespace}
use Rattle.litmus_words.specs.Comments.{IsRestOf, Opens}
use Rattle.litmus_words.specs.declared.word.Word.{Word}
use Rattle.litmus_words.specs.Words.{IsWordOf}

-- Blanks and comments.
pub data IsGap (text : List ℕ) : ℕ → ℕ → Type 0 where
  nothing : (at : ℕ) → IsGap text at at
  blank : (at to : ℕ) → is_ascii_whitespace (slice_index text at) ≡ true → IsGap text (at + 1) to → IsGap text at to
  comment : (at behind to : ℕ) → Opens text at → IsRestOf text 1 (at + 2) behind → IsGap text behind to
      → IsGap text at to

-- There blanks and comments are over: the text ends, or what begins is neither a blank nor a comment.
abbrev pub IsGapEnd : List ℕ → ℕ → Type 0
IsGapEnd text at = (at ≡ length text)
    ⊎ ((is_ascii_whitespace (slice_index text at) ≡ false) × (Opens text at → ⊥))

-- The words stand in the text in their order, from this byte on, and nothing else does.
abbrev pub StandFrom : List ℕ → ℕ → List Word → Type 0
StandFrom text from [] = IsGap text from (length text)
StandFrom text from (word ∷ words) = IsGap text from word.start × (word.start < word.end) × (word.end ≤ length text)
    × IsWordOf text word × StandFrom text word.end words
