-- The lines of a hint. (This project's own choice.)
use Rattle.std.specs.Prelude.{◌≡◌, ◌≤◌, ◌+◌, ◌==◌, ◌&&◌, ℕ, Bool, not, true, false, if◌then◌else◌}
use Rattle.std.specs.Prelude.{List, [], ◌∷◌}
use Rattle.std.specs.List.{list_all}
use Rattle.shown_text.specs.Shown.{is_control}
use Rattle.hints.specs.{declared.hint.Form.Form}
use Rattle.hints.specs.declared.hint.Form.TheVariants.{Lines, Json}

-- A byte is no control character of ASCII; none of a text is.
abbrev pub is_shown : ℕ → Bool
is_shown byte = not (is_control byte)

abbrev pub are_shown : List ℕ → Bool
are_shown text = list_all is_shown text

-- A text has lines alone, each a blank, what is shown, and a newline; `within` says that it begins within one.
abbrev pub are_lines : Bool → List ℕ → Bool
are_lines false [] = true
are_lines true [] = false
are_lines false (byte ∷ rest) = (byte == 32) && are_lines true rest
are_lines true (byte ∷ rest) = if byte == 10 then are_lines false rest else is_shown byte && are_lines true rest

-- How many newlines there are.
abbrev pub lines_in : List ℕ → ℕ
lines_in [] = 0
lines_in (byte ∷ rest) = (if byte == 10 then 1 else 0) + lines_in rest

-- A blank, and what is shown.
abbrev pub is_open_line : List ℕ → Bool
is_open_line [] = false
is_open_line (byte ∷ rest) = (byte == 32) && are_shown rest

-- What is there of a hint with so many parts while it is put together: a line for each, or as JSON a line without
-- its end.
abbrev pub is_begun : Form → ℕ → List ℕ → Bool
is_begun Lines count text = are_lines false text && (lines_in text == count)
is_begun Json count text = is_open_line text

-- The text of a hint: lines, fifteen at most (six of one fault, and nine of further ones), and as JSON one.
abbrev pub most_lines : Form → ℕ
most_lines Lines = 15
most_lines Json = 1

pub record IsHintText (form : Form) (text : List ℕ) : Type 0 where
  pub lines : are_lines false text ≡ true
  pub few : lines_in text ≤ most_lines form
