-- Under a band of a chart, why rows were squashed in it. (This project's own choice; docs/FORMATS.md, "The chart".)
use Rattle.std.specs.Prelude.{ℕ, Bool, true, false, ◌==◌, ◌&&◌, List, [], ◌∷◌, ◌++◌, codes, find, slice_get}
use Rattle.std.specs.Prelude.{Option, None, Some}
use Rattle.std.specs.Fmt.{decimal}
use Rattle.text_fields.specs.Spelling.{hex}
use Rattle.events.specs.{declared.event.Event.Event, Event.seq_of}
use Rattle.chart_rows.specs.{declared.band.Band.Band, declared.row.Row.Row, declared.view.View.View, Views.shows}
use Rattle.chart_rows.specs.{declared.cell.Cell.Cell, declared.row.Squash.Squash as AnySquash, Cells.cell_at}
use Rattle.chart_rows.specs.{Bands.within, declared.cause.Cause.Cause}
use Rattle.chart_rows.specs.declared.cell.Cell.TheVariants.{Squash}
use Rattle.chart_rows.specs.declared.cause.Cause.TheVariants.{Mispredicted, Replayed, Ended, Stopped, Refetched}
use Rattle.chart_columns.specs.Tables.{column}

-- A row has an `x` in a column, and was squashed there by an event of this instruction.
abbrev pub is_cross : Cell → Bool
is_cross (Squash by) = true
is_cross _ = false

abbrev pub is_squash : ℕ → ℕ → Option AnySquash → Bool
is_squash column by None = false
is_squash column by (Some squash) = (squash.place == column) && (squash.by == by)

abbrev pub is_crossed : ℕ → ℕ → Row → Bool
is_crossed column by row = is_squash column by row.squashed && is_cross (cell_at row column)

-- And is drawn.
abbrev pub is_shown_crossed : View → ℕ → ℕ → Row → Bool
is_shown_crossed shown column by row = is_crossed column by row && shows shown row

-- Where a hart goes on, and where it was expected to.
unfoldable pub paths_text : ℕ → ℕ → List ℕ
paths_text to predicted = codes ": to " ++ (hex 8 to ++ (codes ", predicted " ++ hex 8 predicted))

unfoldable pub mispredicted_text : ℕ → List ℕ
mispredicted_text by = codes " mispredicted by " ++ decimal by

-- Why instructions of a hart were squashed by one of this number.
abbrev pub cause_text : ℕ → ℕ → Cause → List ℕ
cause_text hart by (Mispredicted to predicted) = mispredicted_text by ++ paths_text to predicted
cause_text hart by Replayed = codes " replayed by " ++ decimal by
cause_text hart by Ended = codes " hart " ++ (decimal hart ++ codes " ended")
cause_text hart by Stopped = codes " hart " ++ (decimal hart ++ codes " stopped")
cause_text hart by Refetched = codes " refetched"

-- The line of the event at a place, of a row that it squashed.
unfoldable pub reason_text : ℕ → ℕ → AnySquash → List ℕ
reason_text place hart squash = (codes "x at " ++ (decimal place ++ codes ":"))
    ++ (cause_text hart squash.by squash.cause ++ 10 ∷ [])

abbrev pub squash_text : ℕ → ℕ → Option AnySquash → List ℕ
squash_text place hart None = []
squash_text place hart (Some squash) = reason_text place hart squash

abbrev pub crossed_text : ℕ → Option Row → List ℕ
crossed_text place None = []
crossed_text place (Some row) = squash_text place row.hart row.squashed

-- What is said of an event at a place: of the first row that it squashed and that is drawn.
abbrev pub event_text : List Row → View → List ℕ → ℕ → Option Event → List ℕ
event_text rows shown columns place None = []
event_text rows shown columns place (Some event) =
    crossed_text place (find (is_shown_crossed shown (column columns place) (seq_of event)) rows)

unfoldable pub why_text : List Row → List Event → View → List ℕ → ℕ → List ℕ
why_text rows events shown columns place = event_text rows shown columns place (slice_get events place)

abbrev pub whys_over : List Row → List Event → View → List ℕ → List ℕ → List ℕ
whys_over rows events shown columns [] = []
whys_over rows events shown columns (place ∷ others) =
    why_text rows events shown columns place ++ whys_over rows events shown columns others
