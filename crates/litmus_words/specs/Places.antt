-- Places in a text.
use Rattle.std.specs.Prelude.{◌≡◌, ◌≢◌, ℕ, ◌+◌, ◌==◌, ◌≤◌, ◌⊎◌, Bool, List, [], ◌∷◌, ◌++◌, length, take, count_by, All}
use Rattle.litmus_words.specs.declared.place.Place.{Place}
use Rattle.litmus_words.specs.declared.refused.ReadingRefused.{ReadingRefused}
use Rattle.litmus_words.specs.declared.refused.ReadingRefused.TheVariants.{Memory, At}

-- A text that begins a line: there is nothing before, or a line end.
abbrev pub EndsLine : List ℕ → Type 0
EndsLine before = (before ≡ []) ⊎ ((others : List ℕ) × (before ≡ others ++ 10 ∷ []))

-- Behind so much of a text, the column is one above the bytes of the line that has begun.
pub record IsColumnBehind (before : List ℕ) (column : ℕ) : Type 0 where
  pub lines : List ℕ
  pub begun : List ℕ
  pub cut : before ≡ lines ++ begun
  pub ends : EndsLine lines
  pub alone : All (λ byte. byte ≢ 10) begun
  pub counted : column ≡ length begun + 1

-- And the line is one above the line ends.
abbrev pub is_line_end : ℕ → Bool
is_line_end byte = byte == 10

abbrev pub IsLineBehind : List ℕ → ℕ → Type 0
IsLineBehind before line = line ≡ count_by is_line_end before + 1

-- A place of a text: that of one of its bytes, or of its end.
pub record IsPlaceIn (text : List ℕ) (place : Place) : Type 0 where
  pub offset : ℕ
  pub inside : offset ≤ length text
  pub line : IsLineBehind (take offset text) place.line
  pub column : IsColumnBehind (take offset text) place.column

-- A refusal names a place of the text, unless there was no memory.
abbrev pub IsRefusedIn : List ℕ → ReadingRefused → Type 0
IsRefusedIn text Memory = Unit {0}
IsRefusedIn text (At place fault word) = IsPlaceIn text place
