-- A chart as text: a row an instruction, a column an event or several, cut into bands that fit a line. (This project's own choice;
-- docs/FORMATS.md, "The chart".)
use Rattle.std.specs.Prelude.{ℕ, zero, suc, ◌+◌, ◌-◌, ◌*◌, ◌/◌, ◌%◌, ◌^◌, ◌==◌, min, max, Bool, false, ◌&&◌, nat_le, nat_lt}
use Rattle.std.specs.Prelude.{if◌then◌else◌, List, [], ◌∷◌, ◌++◌, codes, filter, length, map, replicate, Option, None, Some, is_some}
use Rattle.std.specs.{Fmt.decimal, List.range_with_len}
use Rattle.text_fields.specs.{Each.each_from, Spelling.hex}
use Rattle.rv_instr.specs.{declared.op.Op.Op, declared.op.Op.TheVariants.Known, declared.op.Op.TheVariants.Illegal}
use Rattle.rv_instr.specs.{declared.op.Op.TheVariants.NoWord, Decode.op_of_word}
use Rattle.rv_text.specs.Spelling.{spelling_of}
use Rattle.address_labels.specs.{Labels.Marks, Texts.labels_text, Texts.label_width}
use Rattle.address_labels.specs.declared.writing.Form.{Form}
use Rattle.address_labels.specs.declared.writing.Form.TheVariants.{Word}
use Rattle.chart_rows.specs.Bands.{band_of, bands_of, has_place, last_column, within}
use Rattle.chart_rows.specs.{declared.row.Row.Row, declared.row.Squash.Squash, declared.view.View.View}
use Rattle.chart_rows.specs.{declared.band.Band.Band}
use Rattle.chart_columns.specs.Tables.{head, last}
use Rattle.chart_registers.specs.declared.registers.Registers.{Registers}
use Rattle.charts.specs.{declared.label.Widths.Widths, Counted.counted_text, Drawings.Drawing}
use Rattle.charts.specs.{Found.registers_text, Found.registers_width, Whys.whys_over}
use Rattle.chart_rows.specs.{Cells.letter_at, Views.shows, Views.last_place}

-- ---- The name of a row

abbrev pub spaces : ℕ → List ℕ
spaces count = replicate count 32

-- A text to the right of so many places, and a space; and to the left of them.
abbrev pub to_right : ℕ → List ℕ → List ℕ
to_right places text = spaces (places - length text) ++ (text ++ 32 ∷ [])

abbrev pub to_left : ℕ → List ℕ → List ℕ
to_left places text = text ++ spaces (places - length text)

-- The instruction of a row as a listing spells it; a dash where there is no word.
abbrev pub op_text : Op → ℕ → List ℕ
op_text (Known instr) pc = spelling_of instr pc
op_text Illegal pc = codes ".word"
op_text NoWord pc = codes "-"

abbrev pub instruction_text : Row → List ℕ
instruction_text row = op_text (op_of_word row.word) row.pc

-- What is wanted beside its pc, as wide as it is in a line of text.
abbrev pub label_text : Form → ℕ → Marks → ℕ → List ℕ
label_text form places marks pc = labels_text form marks pc ++ spaces (places - label_width marks pc)

-- The registers of a row with this number, where they are wanted, to the left of so many places.
abbrev pub field_text : ℕ → List (Option Registers) → ℕ → List ℕ
field_text places registers number = to_left places (registers_text registers number)

-- Hart, number, pc and instruction, with a space behind each but the last.
unfoldable pub place_text : Widths → ℕ → Row → List ℕ
place_text widths number row =
    to_right widths.hart (decimal row.hart)
    ++ (to_right widths.number (decimal number)
    ++ ((hex 8 row.pc ++ 32 ∷ []) ++ to_left widths.instruction (instruction_text row)))

-- What is wanted beside the pc, the registers, and a space.
unfoldable pub beside_text : Form → Widths → Marks → List (Option Registers) → ℕ → ℕ → List ℕ
beside_text form widths marks registers number pc = label_text form widths.labels marks pc
    ++ (field_text widths.registers registers number ++ 32 ∷ [])

-- The name of a row.
unfoldable pub name_text : Form → Widths → Marks → List (Option Registers) → ℕ → Row → List ℕ
name_text form widths marks registers number row =
    place_text widths number row ++ beside_text form widths marks registers number row.pc

-- ---- How wide names are: as wide as the widest of the rows that are drawn, and as the greatest number of all

abbrev pub digits : ℕ → ℕ
digits number = length (decimal number)

-- As wide, or as wide as the name of one more row.
abbrev pub widened : Marks → Row → Widths → Widths
widened marks row widths = record {
  hart = max widths.hart (digits row.hart);
  number = widths.number;
  instruction = max widths.instruction (length (instruction_text row));
  labels = max widths.labels (label_width marks row.pc);
  registers = widths.registers;
}

abbrev pub widened_over : Marks → Widths → List Row → Widths
widened_over marks widths [] = widths
widened_over marks widths (row ∷ rows) = widened_over marks (widened marks row widths) rows

abbrev pub least_widths : View → List (Option Registers) → List Row → Widths
least_widths view registers rows = record {
  hart = 1;
  number = digits (length rows - 1);
  instruction = 0;
  labels = 0;
  registers = registers_width view registers rows;
}

abbrev pub widths_of : View → Marks → List (Option Registers) → List Row → Widths
widths_of view marks registers rows =
    widened_over marks (least_widths view registers rows) (filter (shows view) rows)

-- Of a name, eight digits for the pc and four spaces; and of what may stand behind a row: ` by ` and a number, or
-- ` refetched`.
abbrev pub name_width : Widths → ℕ
name_width widths = widths.hart + widths.number + widths.instruction + widths.labels + widths.registers + 12

abbrev pub remark_width : Widths → ℕ
remark_width widths = max (widths.number + 4) 10

-- ---- The bands

-- As many columns as fit beside both in a line of so many characters, and ten at least.
abbrev pub columns_in : ℕ → Widths → ℕ
columns_in width widths = max (width - name_width widths - remark_width widths) 10

-- The places from one to another.
abbrev pub places : ℕ → ℕ → List ℕ
places from to = range_with_len from (suc to - from)

-- Over every tenth column the place of its first event, beginning there, where there is room for it: what stands over
-- the columns from the first that is free on.
abbrev pub is_numbered : ℕ → ℕ → Bool
is_numbered free column = column % 10 == 0 && nat_le free column

abbrev pub number_over : ℕ → ℕ → ℕ → List ℕ
number_over free column number = if is_numbered free column then spaces (column - free) ++ decimal number else []

abbrev pub free_behind : ℕ → ℕ → ℕ → ℕ
free_behind free column number = if is_numbered free column then column + digits number else free

abbrev pub ruler_from : List ℕ → ℕ → List ℕ → List ℕ
ruler_from columns free [] = []
ruler_from columns free (column ∷ others) = number_over free column (head columns column)
    ++ ruler_from columns (free_behind free column (head columns column)) others

unfoldable pub ruler_text : List ℕ → Band → Widths → List ℕ
ruler_text columns band widths =
    spaces (name_width widths) ++ (ruler_from columns band.from (places band.from band.to) ++ 10 ∷ [])

-- ---- The rows of a band

abbrev pub cells_text : Row → Band → List ℕ
cells_text row band = map (letter_at row) (places band.from (last_column band (last_place row)))

abbrev pub by_text : Band → Option Squash → List ℕ
by_text band None = []
by_text band (Some squash) =
    if has_place band (Some squash.place) then codes " by " ++ decimal squash.by else []

abbrev pub replayed_text : Band → Row → List ℕ
replayed_text band row = if row.replayed && has_place band row.retired then codes " replayed" else []

-- What squashed a row in the band: its own refetch, or another instruction.
abbrev pub squashed_text : Band → Row → List ℕ
squashed_text band row = if is_some row.refetched
    then (if has_place band row.refetched then codes " refetched" else []) else by_text band row.squashed

unfoldable pub remark_text : Row → Band → List ℕ
remark_text row band = squashed_text band row ++ (replayed_text band row ++ 10 ∷ [])

unfoldable pub line_text : Widths → Marks → List (Option Registers) → Band → ℕ → Row → List ℕ
line_text widths marks registers band number row =
    name_text Word widths marks registers number row ++ (cells_text row band ++ remark_text row band)

-- Each row that something stands of in the band, with its number.
abbrev pub row_text : Widths → Drawing → Band → ℕ → Row → List ℕ
row_text widths drawing band number row = if shows (within drawing.view band) row
    then line_text widths drawing.marks drawing.registers band number row else []

-- Why rows that are drawn were squashed in it.
abbrev pub whys_text : Drawing → Band → List ℕ
whys_text drawing band = whys_over drawing.rows drawing.events (within drawing.view band) drawing.columns
    (places (head drawing.columns band.from) (last drawing.columns band.to))

unfoldable pub band_text : Widths → Drawing → Band → List ℕ
band_text widths drawing band = ruler_text drawing.columns band widths
    ++ (each_from (row_text widths drawing band) 0 drawing.rows
    ++ (counted_text drawing (name_width widths) (places band.from band.to) ++ whys_text drawing band))

-- ---- The whole chart

-- An empty line stands between two bands: so the first of them, each with its number.
abbrev pub gap_before : ℕ → List ℕ
gap_before number = if number == 0 then [] else 10 ∷ []

abbrev pub bands_text : Widths → Drawing → ℕ → ℕ → List ℕ
bands_text widths drawing columns zero = []
bands_text widths drawing columns (suc number) = bands_text widths drawing columns number
    ++ (gap_before number ++ band_text widths drawing (band_of drawing.view columns number))

abbrev pub chart_by : ℕ → Widths → Drawing → List ℕ
chart_by columns widths drawing = bands_text widths drawing columns (bands_of drawing.view columns)

abbrev pub chart_text : Drawing → List ℕ
chart_text drawing = let widths = widths_of drawing.view drawing.marks drawing.registers drawing.rows in
    chart_by (columns_in drawing.width widths) widths drawing
