-- A text of an input in a picture: what XML would read otherwise is spelled out. (XML 1.0, character data; what
-- isn't ASCII is left out by this project's own choice.)
use Rattle.std.specs.Prelude.{ℕ, ◌==◌, nat_le, if◌then◌else◌, List, codes, flat_map}
use Rattle.shown_text.specs.Shown.{shown_byte, shown_name_byte}

abbrev pub drawn_byte : ℕ → List ℕ
drawn_byte byte =
    if byte == 60 then codes "&lt;"
    else (if byte == 38 then codes "&amp;" else (if nat_le 128 byte then codes "?" else shown_byte byte))

abbrev pub drawn : List ℕ → List ℕ
drawn text = flat_map drawn_byte text

-- A name in a picture is one word: a blank is `\x20`.
abbrev pub drawn_name_byte : ℕ → List ℕ
drawn_name_byte byte = if byte == 32 then shown_name_byte byte else drawn_byte byte

abbrev pub drawn_name : List ℕ → List ℕ
drawn_name name = flat_map drawn_name_byte name
