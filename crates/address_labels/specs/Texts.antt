-- What stands beside an address. (This project's own choice.)
use Rattle.std.specs.Prelude.{ℕ, ◌-◌, ◌^◌, ◌==◌, min, if◌then◌else◌, List, [], ◌∷◌, ◌++◌, length, codes}
use Rattle.std.specs.Prelude.{Option, Some, None}
use Rattle.std.specs.{Fmt.decimal}
use Rattle.shown_text.specs.Shown.{shown_name}
use Rattle.svg_drawing.specs.Text.{drawn_name}
use Rattle.symbols.specs.Tables.{Table}
use Rattle.source_lines.specs.Lines.{Origin, line_for}
use Rattle.address_labels.specs.Labels.{Marks, Place, place_in}
use Rattle.address_labels.specs.declared.writing.Form.{Form}
use Rattle.address_labels.specs.declared.writing.Form.TheVariants.{Word, Listing, Drawn}

-- A name of the input is one word.
abbrev pub name_by : Form → List ℕ → List ℕ
name_by Word name = shown_name name
name_by Listing name = shown_name name
name_by Drawn name = drawn_name name

-- In a listing a name stands in angle brackets; a space stands before each.
abbrev pub open_of : Form → List ℕ
open_of Word = codes " "
open_of Listing = codes " <"
open_of Drawn = codes " "

abbrev pub close_of : Form → List ℕ
close_of Word = []
close_of Listing = codes ">"
close_of Drawn = []

-- How many bytes an address is behind a start, where it isn't that.
abbrev pub behind_text : ℕ → List ℕ
behind_text behind = if behind == 0 then [] else 43 ∷ decimal behind

abbrev pub place_text : Form → Place → List ℕ
place_text form place = open_of form ++ (name_by form place.name ++ (behind_text place.behind ++ close_of form))

abbrev pub place_field : Form → Option Place → List ℕ
place_field form None = codes " -"
place_field form (Some place) = place_text form place

-- The name that covers an address, where names are wanted.
abbrev pub name_field : Form → Option Table → ℕ → List ℕ
name_field form None address = []
name_field form (Some names) address = place_field form (place_in names address)

-- The file and the line that the word at an address comes from, where there are lines.
abbrev pub origin_field : Form → Option Origin → List ℕ
origin_field form None = codes " -"
origin_field form (Some origin) = 32 ∷ (name_by form origin.file ++ 58 ∷ decimal origin.number)

abbrev pub line_field : Form → Option (List Origin) → ℕ → List ℕ
line_field form None address = []
line_field form (Some lines) address = origin_field form (line_for lines address)

-- All that is wanted beside an address.
unfoldable pub labels_text : Form → Marks → ℕ → List ℕ
labels_text form marks address = name_field form marks.names address ++ line_field form marks.lines address

-- A number, or the greatest that a word has where it is greater; and so how many bytes that is in a line of text.
abbrev pub as_word : ℕ → ℕ
as_word number = min number (2 ^ 32 - 1)

unfoldable pub label_width : Marks → ℕ → ℕ
label_width marks address = as_word (length (labels_text Word marks address))
