-- The lines of a summary that was printed before, as its text has them. (This project's own choice.)
use Rattle.std.specs.Prelude.{◌≡◌, ℕ, ◌+◌, ◌-◌, ◌^◌, ◌==◌, ◌&&◌, ◌||◌, Bool, true, false, if◌then◌else◌}
use Rattle.std.specs.Prelude.{List, [], ◌∷◌, ◌++◌, All, codes, flat_map, length, reverse, take}
use Rattle.std.specs.Prelude.{Option, Some, None, is_some}
use Rattle.std.specs.{Str.bytes_eq, Result.result_ok}
use Rattle.std.specs.List.{starts_with, ends_with}
use Rattle.text_fields.specs.{Reading.decimal_field, Splitting.field, Splitting.field_count, Splitting.rest}
use Rattle.litmus_suites.specs.Lines.{word_of}
use Rattle.litmus_suites.specs.declared.summary_lines.ExpectedLine.{ExpectedLine}
use Rattle.litmus_suites.specs.declared.summary_lines.SummaryRefused.{SummaryRefused}
use Rattle.litmus_suites.specs.declared.summary_lines.SummaryRefused.TheVariants.{Line, Memory}

-- What stands before the last blank of a line, and what behind it: nothing and all of it where there is none.
abbrev pub before_blank : List ℕ → List ℕ
before_blank line = reverse (rest 32 (reverse line))

abbrev pub behind_blank : List ℕ → List ℕ
behind_blank line = reverse (field 32 (reverse line))

abbrev pub number_in : List ℕ → Option ℕ
number_in text = result_ok (decimal_field (2 ^ 32 - 1) text)

-- The word is the one that the numbers ask for.
abbrev pub is_word_of : List ℕ → Option ℕ → Option ℕ → Bool
is_word_of word None others = false
is_word_of word (Some held) None = false
is_word_of word (Some held) (Some others) = bytes_eq word (word_of held others)

abbrev pub is_asked : List ℕ → Bool
is_asked word = bytes_eq word (codes "Ok") || bytes_eq word (codes "No")

abbrev pub not_empty : List ℕ → Option (List ℕ)
not_empty name = if length name == 0 then None else Some name

-- The name before the word, the numbers and whether the states are as asked: each of them behind a blank.
abbrev pub name_before : List ℕ → List ℕ → Option (List ℕ)
name_before numbers others = let words = before_blank numbers in
    if is_word_of (behind_blank words) (number_in (behind_blank numbers)) (number_in others)
    then not_empty (before_blank words) else None

unfoldable pub name_of_whole : List ℕ → Option (List ℕ)
name_of_whole line = let numbers = before_blank line in
    if is_asked (behind_blank line) then name_before (before_blank numbers) (behind_blank numbers) else None

-- A line that ends so, without that.
abbrev pub without : ℕ → List ℕ → List ℕ
without count line = take (length line - count) line

-- The name of the test of which a line is, if it is one of a test. It is read from its end.
unfoldable pub name_in : List ℕ → Option (List ℕ)
name_in line = if ends_with ◌==◌ line (codes " not complete") then not_empty (without 13 line)
    else (if ends_with ◌==◌ line (codes " stuck") then name_of_whole (without 6 line) else name_of_whole line)

-- A line has counts: those of a summary, behind its tests.
unfoldable pub is_counts : List ℕ → Bool
is_counts line = starts_with ◌==◌ line (codes "tests ") && is_some (number_in (behind_blank line))

-- A line is of a test, which has this name, or of counts.
abbrev pub is_of_test : ExpectedLine → Type 0
is_of_test line = name_in (line.name.now ++ line.verdict.now) ≡ Some line.name.now

abbrev pub is_of_counts : ExpectedLine → Type 0
is_of_counts line = (is_counts line.name.now ≡ true) × (line.verdict.now ≡ [])

abbrev pub IsLineWhere : Bool → ExpectedLine → Type 0
IsLineWhere true line = is_of_counts line
IsLineWhere false line = is_of_test line

abbrev pub IsSummaryLine : ExpectedLine → Type 0
IsSummaryLine line = IsLineWhere line.is_over line

abbrev pub line_of : ExpectedLine → List ℕ
line_of line = line.name.now ++ line.verdict.now

-- A text has these lines, each with a newline behind it.
abbrev pub lines_text : List ExpectedLine → List ℕ
lines_text lines = flat_map (λ line. line_of line ++ 10 ∷ []) lines

pub record AreLinesOf (text : List ℕ) (lines : List ExpectedLine) : Type 0 where
  pub whole : text ≡ lines_text lines
  pub each : All IsSummaryLine lines

-- A text begins with a line of a summary.
abbrev pub begins_with_line : List ℕ → Bool
begins_with_line text = let line = field 10 text in
    if field_count 10 text == 1 then false else (is_some (name_in line) || is_counts line)

-- The line with this number is the first that is none of a summary.
pub record IsFirstRefused (text : List ℕ) (number : ℕ) : Type 0 where
  pub before : List ExpectedLine
  pub left : List ℕ
  pub whole : text ≡ lines_text before ++ left
  pub each : All IsSummaryLine before
  pub count : number ≡ length before + 1
  pub more : (length left == 0) ≡ false
  pub fails : begins_with_line left ≡ false

abbrev pub IsSummaryRefusal : List ℕ → SummaryRefused → Type 0
IsSummaryRefusal text (Line number) = IsFirstRefused text number
IsSummaryRefusal text Memory = Unit {0}
