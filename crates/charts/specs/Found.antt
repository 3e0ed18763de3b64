-- The registers of a row: what it was given for its destination, and what it found for its sources. (This project's own
-- choice; docs/FORMATS.md, "The chart".)
use Rattle.std.specs.Prelude.{ℕ, ◌+◌, max, if◌then◌else◌, List, [], ◌∷◌, ◌++◌, codes, length, Option, None, Some}
use Rattle.std.specs.Prelude.{slice_index_or}
use Rattle.std.specs.Fmt.{decimal}
use Rattle.chart_rows.specs.{declared.row.Row.Row, declared.view.View.View, Views.shows}
use Rattle.chart_registers.specs.declared.registers.{Destination.Destination, Registers.Registers, Source.Source}

-- A register and the physical one that was given for it; and one that was found, with the number of the instruction that
-- writes it, where it isn't one of the start.
abbrev pub destination_text : Option Destination → List ℕ
destination_text None = []
destination_text (Some given) =
    codes " x" ++ (decimal given.register ++ (codes ">p" ++ decimal given.physical))

abbrev pub writer_text : Option ℕ → List ℕ
writer_text None = []
writer_text (Some by) = codes ":" ++ decimal by

abbrev pub source_text : Option Source → List ℕ
source_text None = []
source_text (Some found) =
    codes " x" ++ (decimal found.register ++ (codes "=p" ++ (decimal found.physical ++ writer_text found.by)))

abbrev pub sources_text : List (Option Source) → List ℕ
sources_text sources = source_text (slice_index_or sources 0 None) ++ source_text (slice_index_or sources 1 None)

-- Those of an instruction, of which none may be known; and of the one with this number.
abbrev pub found_text : Option Registers → List ℕ
found_text None = []
found_text (Some found) = destination_text found.destination ++ sources_text found.sources

unfoldable pub registers_text : List (Option Registers) → ℕ → List ℕ
registers_text registers number = found_text (slice_index_or registers number None)

-- As wide as the widest of the rows that are drawn, of which the first has this number, and as this.
abbrev pub wider_found : View → List (Option Registers) → ℕ → Row → ℕ → ℕ
wider_found view registers number row width =
    if shows view row then max width (length (registers_text registers number)) else width

abbrev pub width_over : View → List (Option Registers) → ℕ → ℕ → List Row → ℕ
width_over view registers number width [] = width
width_over view registers number width (row ∷ rows) =
    width_over view registers (number + 1) (wider_found view registers number row width) rows

abbrev pub registers_width : View → List (Option Registers) → List Row → ℕ
registers_width view registers rows = width_over view registers 0 0 rows
