-- Where something stands in a text. (This project's own choice.)
use Rattle.std.specs.Prelude.{ℕ, ◌+◌, ◌/◌, ◌==◌, ◌&&◌, ◌||◌, not, nat_lt}
use Rattle.std.specs.Prelude.{Bool, true, false, if◌then◌else◌, List, [], ◌∷◌, ◌++◌}
use Rattle.std.specs.Prelude.{codes, length, take, drop, Option, Some, None}
use Rattle.std.specs.{Fmt.decimal, List.starts_with, Char.is_ascii_alphanumeric}
use Rattle.explanations.specs.declared.place.Place.{Place}

-- The place behind a byte: a newline begins a line, and each other byte but those inside a character is a column.
abbrev pub next_place : Place → ℕ → Place
next_place place byte =
    if byte == 10 then record { line = place.line + 1; column = 1 }
    else if byte / 64 == 2 then place
    else record { line = place.line; column = place.column + 1 }

abbrev pub place_from : Place → List ℕ → Place
place_from place [] = place
place_from place (byte ∷ bytes) = place_from (next_place place byte) bytes

abbrev pub first_place : Place
first_place = record { line = 1; column = 1 }

-- The place of a byte of a text, or that of its end.
abbrev pub before : List ℕ → ℕ → List ℕ
before text byte = if nat_lt byte (length text) then take byte text else text

abbrev pub place_at : List ℕ → ℕ → Place
place_at text byte = place_from first_place (before text byte)

unfoldable pub place_text : ℕ → ℕ → List ℕ
place_text line column = codes "line " ++ (decimal line ++ (codes ", column " ++ (decimal column ++ codes ": ")))

-- What is said of a place, where there is one.
abbrev pub found_at : List ℕ → Option ℕ → List ℕ
found_at text (Some byte) = place_text (place_at text byte).line (place_at text byte).column
found_at text None = []

-- ---- Names

-- A byte may stand in a name without quotation marks.
abbrev pub is_of_name : ℕ → Bool
is_of_name byte = is_ascii_alphanumeric byte || byte == 95 || byte == 45

abbrev pub is_name_end : List ℕ → Bool
is_name_end [] = true
is_name_end (byte ∷ rest) = not (is_of_name byte)

-- A text begins with the name, which ends there.
abbrev pub has_name : List ℕ → List ℕ → Bool
has_name name text = starts_with ◌==◌ text name && is_name_end (drop (length name) text)

-- The first byte at which the name stands, of those at which it may: at the first one or not, and behind each byte by
-- what is so of this one.
abbrev pub first_from : (Bool → ℕ → Bool) → List ℕ → Bool → List ℕ → ℕ → Option ℕ
first_from behind name may [] place = None
first_from behind name may (byte ∷ rest) place =
    if may && has_name name (byte ∷ rest) then Some place
    else first_from behind name (behind may byte) rest (place + 1)

-- Where a line begins, behind blanks, brackets and quotation marks too.
abbrev pub is_quote : ℕ → Bool
is_quote byte = byte == 34 || byte == 39

abbrev pub begins_line : Bool → ℕ → Bool
begins_line begins byte = byte == 10 || (begins && (byte == 32 || byte == 9 || byte == 91 || is_quote byte))

abbrev pub key_place : List ℕ → List ℕ → Option ℕ
key_place text key = first_from begins_line key true text 0

-- Behind a quotation mark.
abbrev pub behind_quote : Bool → ℕ → Bool
behind_quote quoted byte = is_quote byte

abbrev pub quoted_place : List ℕ → List ℕ → Option ℕ
quoted_place text name = first_from behind_quote name false text 0
