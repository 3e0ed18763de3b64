-- How a text of an input is shown to a person. (This project's own choice.)
use Rattle.std.specs.Prelude.{ℕ, ◌==◌, nat_lt, ◌||◌, Bool, if◌then◌else◌, List, [], ◌∷◌, flat_map}
use Rattle.text_fields.specs.Spelling.{hex}

-- A control character of ASCII.
abbrev pub is_control : ℕ → Bool
is_control byte = nat_lt byte 32 || (byte == 127)

-- A control character is `\x` and its two hexadecimal digits; all else stands as it is.
abbrev pub shown_byte : ℕ → List ℕ
shown_byte byte = if is_control byte then 92 ∷ 120 ∷ hex 2 byte else byte ∷ []

abbrev pub shown : List ℕ → List ℕ
shown text = flat_map shown_byte text

-- A name is shown as one word: a blank is `\x20`.
abbrev pub shown_name_byte : ℕ → List ℕ
shown_name_byte byte = if byte == 32 then 92 ∷ 120 ∷ hex 2 byte else shown_byte byte

abbrev pub shown_name : List ℕ → List ℕ
shown_name name = flat_map shown_name_byte name
