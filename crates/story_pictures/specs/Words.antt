-- The text of a row in its box: as the story's text words it, with what XML would read otherwise spelled out, and
-- without the reason of an SC that fails. (This project's own choice.)
use Rattle.std.specs.Prelude.{ℕ, ◌&&◌, nat_le, nat_lt, if◌then◌else◌, List, [], ◌∷◌, ◌++◌, codes}
use Rattle.std.specs.Prelude.{Option, Some, None}
use Rattle.std.specs.Fmt.{decimal}
use Rattle.text_fields.specs.Spelling.{hex}
use Rattle.svg_drawing.specs.Text.{drawn, drawn_name}
use Rattle.symbols.specs.Tables.{Table}
use Rattle.address_labels.specs.{Labels.Place, Labels.place_in, Texts.behind_text}
use Rattle.stories.specs.declared.deed.Deed.{Deed}
use Rattle.stories.specs.declared.deed.Deed.TheVariants as deed
use Rattle.story_text.specs.Deeds.{address_text, name_of, read_arrow, written_arrow}

-- Where an address is: in what has a name, and how many bytes behind its start; else its eight digits.
abbrev pub drawn_place : Place → List ℕ
drawn_place place = drawn_name place.name ++ behind_text place.behind

abbrev pub drawn_place_or : Option Place → ℕ → List ℕ
drawn_place_or None address = address_text address
drawn_place_or (Some place) address = drawn_place place

abbrev pub place_words : Table → ℕ → List ℕ
place_words names address = drawn_place_or (place_in names address) address

abbrev pub read_words : Table → ℕ → ℕ → List ℕ
read_words names addr number = place_words names addr ++ (read_arrow ++ decimal number)

abbrev pub written_words : Table → ℕ → ℕ → List ℕ
written_words names addr number = place_words names addr ++ (written_arrow ++ decimal number)

abbrev pub atomic_words : Table → ℕ → ℕ → ℕ → List ℕ
atomic_words names addr old new = place_words names addr ++ (32 ∷ (decimal old ++ (read_arrow ++ decimal new)))

abbrev pub failed_words : Table → ℕ → List ℕ
failed_words names addr = place_words names addr ++ codes " fails"

-- A byte that was put out: between quotes where it is a character that can be seen, else by its two digits.
abbrev pub byte_words : ℕ → List ℕ
byte_words byte =
    if nat_le 32 byte && nat_lt byte 127 then 39 ∷ (drawn (byte ∷ []) ++ 39 ∷ []) else codes "0x" ++ hex 2 byte

abbrev pub shown_words : Table → Deed → List ℕ
shown_words names (deed.Loaded op addr number) = read_words names addr number
shown_words names (deed.Reserved addr number) = read_words names addr number
shown_words names (deed.Stored op addr number) = written_words names addr number
shown_words names (deed.Conditional addr number) = written_words names addr number
shown_words names (deed.Failed addr) = failed_words names addr
shown_words names (deed.Atomic kind addr old new) = atomic_words names addr old new
shown_words names (deed.Out byte) = byte_words byte
shown_words names (deed.Ended number) = decimal number
shown_words names (deed.Stopped cause) = decimal cause

unfoldable pub deed_words : Table → Deed → List ℕ
deed_words names d = name_of d ++ (32 ∷ shown_words names d)
