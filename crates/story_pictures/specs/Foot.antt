-- The foot of a picture: a text, in lines that end on the page. (This project's own choice. The characters of a text are
-- those of UTF-8: RFC 3629.)
use Rattle.std.specs.Prelude.{ℕ, ◌+◌, ◌*◌, ◌-◌, ◌==◌, nat_le, nat_lt, not, ◌&&◌, ◌||◌, Bool, false, if◌then◌else◌}
use Rattle.std.specs.Prelude.{List, [], ◌∷◌, ◌++◌, codes, take, fold, length, slice_get}
use Rattle.std.specs.{Fmt.decimal, Option.option_map_or}
use Rattle.text_fields.specs.Each.{each_from}
use Rattle.svg_drawing.specs.Text.{drawn}
use Rattle.story_pictures.specs.declared.foot.Caret.{Caret}

-- What is drawn of a text: no more than its first 10000 bytes.
abbrev pub most_foot : ℕ
most_foot = 10000

abbrev pub foot_shown : List ℕ → List ℕ
foot_shown foot = take most_foot foot

-- ---- Where lines end

-- The byte goes on with a character.
abbrev pub goes_on : ℕ → Bool
goes_on byte = nat_le 128 byte && nat_lt byte 192

-- How many characters stand in the line, and how many lines have ended: a line ends at a line end, at the first blank
-- behind 90 characters, and behind 110 in any case.
abbrev pub ends_line : ℕ → Caret → Bool
ends_line byte caret = byte == 10 || (byte == 32 && nat_le 90 caret.column)

abbrev pub fills_line : ℕ → Caret → Bool
fills_line byte caret = nat_le 110 caret.column && not (goes_on byte)

abbrev pub line_start : Caret
line_start = record { column = 0; lines = 0 }

abbrev pub next_caret : Caret → ℕ → Caret
next_caret caret byte =
    if ends_line byte caret then record { column = 0; lines = caret.lines + 1 }
    else (if fills_line byte caret then record { column = 1; lines = caret.lines + 1 }
    else (if goes_on byte then caret else record { column = caret.column + 1; lines = caret.lines }))

abbrev pub caret_behind : List ℕ → Caret
caret_behind text = fold next_caret line_start text

-- ---- Characters

-- At index i stands the first byte of an arrow, as the story's text has them (U+2190 and U+2192); or one of its three.
abbrev pub has_at : List ℕ → ℕ → ℕ → Bool
has_at text i byte = option_map_or (λ found. found == byte) (slice_get text i) false

abbrev pub is_arrow_at : List ℕ → ℕ → Bool
is_arrow_at text i = has_at text i 226 && has_at text (i + 1) 134
    && (has_at text (i + 2) 144 || has_at text (i + 2) 146)

abbrev pub is_of_arrow : List ℕ → ℕ → Bool
is_of_arrow text i = is_arrow_at text i || is_arrow_at text (i - 1) || is_arrow_at text (i - 2)

-- Of what isn't ASCII the arrows are drawn; any other character is a question mark.
abbrev pub character_text : List ℕ → ℕ → ℕ → List ℕ
character_text text i byte =
    if nat_lt byte 128 then drawn (byte ∷ [])
    else (if is_of_arrow text i then byte ∷ [] else (if goes_on byte then [] else codes "?"))

-- ---- The text

abbrev pub next_line : List ℕ
next_line = codes "</tspan>\n<tspan x=\"16\" dy=\"18\">"

abbrev pub piece_text : List ℕ → ℕ → ℕ → Caret → List ℕ
piece_text text i byte caret =
    if ends_line byte caret then next_line
    else (if fills_line byte caret then next_line ++ character_text text i byte else character_text text i byte)

abbrev pub piece_at : List ℕ → ℕ → ℕ → List ℕ
piece_at text i byte = piece_text text i byte (caret_behind (take i text))

unfoldable pub foot_open : ℕ → List ℕ
foot_open y = codes "<text class=\"foot\" y=\"" ++ (decimal y ++ codes "\"><tspan x=\"16\" dy=\"18\">")

abbrev pub pieces_text : List ℕ → List ℕ
pieces_text text = each_from (piece_at text) 0 text

abbrev pub lines_text : List ℕ → ℕ → List ℕ
lines_text text y = foot_open y ++ (pieces_text text ++ codes "</tspan></text>\n")

-- The whole, below this height; nothing where there is no text.
abbrev pub foot_text : List ℕ → ℕ → List ℕ
foot_text foot y = if length foot == 0 then [] else lines_text (foot_shown foot) y

-- How much higher it makes the page.
abbrev pub foot_height : List ℕ → ℕ
foot_height foot = if length foot == 0 then 0 else 18 * ((caret_behind (foot_shown foot)).lines + 1)
