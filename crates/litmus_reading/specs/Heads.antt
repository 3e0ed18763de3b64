-- What stands before the braces: `RISCV` and the name of the test, which goes to the end of the line without the blanks
-- about it; a string, or none; and lines `Key=..`. Each part begins where the blanks and comments before it are over, so
-- there is one way to read it. [herd's litmus format]
use Rattle.std.specs.Prelude.{◌≡◌, ◌≢◌, ◌⊎◌, ℕ, ◌+◌, ◌-◌, ◌≤◌, ◌<◌, Bool, true, false, List, codes, length, slice_index, slice_range}
use Rattle.std.specs.Char.{is_ascii_whitespace}
use Rattle.litmus_words.specs.Gaps.{IsGap, IsGapEnd}
use Rattle.litmus_words.specs.Words.{GoesOn}

-- From the one byte to the other stand blanks and comments, and there they are over.
abbrev pub IsWholeGap : List ℕ → ℕ → ℕ → Type 0
IsWholeGap text from to = IsGap text from to × IsGapEnd text to

-- From the one byte to the other stand blanks alone; no byte is this one.
abbrev pub AreBlank : List ℕ → ℕ → ℕ → Type 0
AreBlank text from to =
    (at : ℕ) → from ≤ at → at < to → is_ascii_whitespace (slice_index text at) ≡ true

abbrev pub LacksByte : List ℕ → ℕ → ℕ → ℕ → Type 0
LacksByte text byte from to = (at : ℕ) → from ≤ at → at < to → slice_index text at ≢ byte

-- A line that goes on at the one byte ends at the other: at its line end, or with the text.
pub record IsLineTo (text : List ℕ) (from to : ℕ) : Type 0 where
  pub on : from ≤ to
  pub inside : to ≤ length text
  pub one : LacksByte text 10 from to
  pub ends : (to ≡ length text) ⊎ (slice_index text to ≡ 10)

-- From the one byte to the other stands, without the blanks about it, what stands from `start` to `end`.
pub record IsTrimmed (text : List ℕ) (from to start end : ℕ) : Type 0 where
  pub on : from ≤ start
  pub order : start ≤ end
  pub inside : end ≤ to
  pub before : AreBlank text from start
  pub behind : AreBlank text end to
  pub begins : start < end → is_ascii_whitespace (slice_index text start) ≡ false
  pub ends : start < end → is_ascii_whitespace (slice_index text (end - 1)) ≡ false

-- `"a string"`, up to the second quotation mark.
pub record IsString (text : List ℕ) (from to : ℕ) : Type 0 where
  pub last : ℕ
  pub opens : slice_index text from ≡ 34
  pub after : from < last
  pub inside : LacksByte text 34 (from + 1) last
  pub closes : slice_index text last ≡ 34
  pub behind : to ≡ last + 1

-- `Key=..`, to the end of its line. The key is a whole name.
pub record IsKeyLine (text : List ℕ) (from to : ℕ) : Type 0 where
  pub equals : ℕ
  pub key : from < equals
  pub whole : GoesOn text from equals
  pub sign : slice_index text equals ≡ 61
  pub line : IsLineTo text equals to

-- One of these, and whether a string may stand behind it.
abbrev pub IsPart : List ℕ → Bool → ℕ → Bool → ℕ → Type 0
IsPart text may_quote at left behind = ((may_quote ≡ true) × (left ≡ false) × IsString text at behind)
    ⊎ ((left ≡ may_quote) × IsKeyLine text at behind)

-- Such parts, up to the braces.
abbrev pub IsAtBraces : List ℕ → ℕ → Type 0
IsAtBraces text at = (at ≡ length text) ⊎ (slice_index text at ≡ 123)

pub data IsMetadata (text : List ℕ) : Bool → ℕ → ℕ → Type 0 where
  metadata_over : (may_quote : Bool) (at : ℕ) → IsAtBraces text at → IsMetadata text may_quote at at
  metadata_part : (may_quote left : Bool) (at behind next to : ℕ) → IsPart text may_quote at left behind
      → IsWholeGap text behind next → IsMetadata text left next to → IsMetadata text may_quote at to

-- This name stands behind the word `RISCV`, and the braces begin at this byte.
pub record IsHeadOf (text name : List ℕ) (braces : ℕ) : Type 0 where
  pub begin : ℕ
  pub behind : ℕ
  pub line : ℕ
  pub start : ℕ
  pub end : ℕ
  pub first : ℕ
  pub gap : IsWholeGap text 0 begin
  pub word : slice_range text begin behind ≡ codes "RISCV"
  pub whole : GoesOn text begin behind
  pub one_line : IsLineTo text behind line
  pub trimmed : IsTrimmed text behind line start end
  pub some : start < end
  pub named : name ≡ slice_range text start end
  pub between : IsWholeGap text end first
  pub metadata : IsMetadata text true first braces
