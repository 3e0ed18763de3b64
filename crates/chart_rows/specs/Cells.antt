-- What stands in a row under an event. (This project's own choice.)
use Rattle.std.specs.Prelude.{◌≡◌, ◌≢◌, ℕ, Bool, true, false, not, ◌==◌, ◌&&◌, nat_le, nat_lt, if◌then◌else◌}
use Rattle.std.specs.Prelude.{Option, None, Some}
use Rattle.events.specs.{declared.kind.EventKind.EventKind, Kind.letter_of}
use Rattle.events.specs.declared.kind.EventKind.TheVariants as kinds
use Rattle.chart_rows.specs.{declared.row.Row.Row, declared.row.Squash.Squash as AnySquash, declared.cell.Cell.Cell}
use Rattle.chart_rows.specs.{Views.place_of_squash}
use Rattle.chart_rows.specs.declared.cell.Cell.TheVariants.{Blank, Live, Event, Squash}

-- The place of the instruction's event of a kind.
abbrev pub place_of : EventKind → Row → Option ℕ
place_of kinds.Fetch row = Some row.fetched
place_of kinds.Decode row = row.decoded
place_of kinds.Rename row = row.renamed
place_of kinds.Issue row = row.issued
place_of kinds.Complete row = row.completed
place_of kinds.Drop row = row.dropped
place_of kinds.Retire row = row.retired
place_of kinds.Refetch row = row.refetched

-- No event of the instruction is at this place.
abbrev pub HasNone : Row → ℕ → Type 0
HasNone row place = (kind : EventKind) → place_of kind row ≢ Some place

-- The event at this place squashed it, and is of this instruction.
abbrev pub IsSquashedBy : ℕ → ℕ → Option AnySquash → Type 0
IsSquashedBy place by None = ⊥
IsSquashedBy place by (Some squash) = (squash.place ≡ place) × (squash.by ≡ by)

-- None squashed it there.
abbrev pub IsUnsquashed : Row → ℕ → Type 0
IsUnsquashed row place = (by : ℕ) → IsSquashedBy place by row.squashed → ⊥

abbrev pub is_over : Option ℕ → ℕ → Bool
is_over None place = false
is_over (Some at) place = nat_le at place

-- The instruction is fetched, and neither retired nor squashed, behind the event at this place.
abbrev pub is_live : Row → ℕ → Bool
is_live row place =
    nat_lt row.fetched place
    && (not (is_over row.retired place) && not (is_over (place_of_squash row.squashed) place))

-- What stands there: the instruction's own event; else the squash of it; else neither, and whether it
-- is live.
abbrev pub IsCellOf : Row → ℕ → Cell → Type 0
IsCellOf row place (Event kind) = place_of kind row ≡ Some place
IsCellOf row place (Squash by) = HasNone row place × IsSquashedBy place by row.squashed
IsCellOf row place Live = HasNone row place × IsUnsquashed row place × (is_live row place ≡ true)
IsCellOf row place Blank = HasNone row place × IsUnsquashed row place × (is_live row place ≡ false)

-- The cell itself. An instruction has no two events at one place: they are looked for in the order in which they come.
abbrev pub is_at : Option ℕ → ℕ → Bool
is_at None place = false
is_at (Some at) place = at == place

abbrev pub kind_at : Row → ℕ → Option EventKind
kind_at row place =
    if row.fetched == place then Some kinds.Fetch
    else (if is_at row.decoded place then Some kinds.Decode
    else (if is_at row.renamed place then Some kinds.Rename
    else (if is_at row.issued place then Some kinds.Issue
    else (if is_at row.completed place then Some kinds.Complete
    else (if is_at row.dropped place then Some kinds.Drop
    else (if is_at row.retired place then Some kinds.Retire
    else (if is_at row.refetched place then Some kinds.Refetch
    else None)))))))

abbrev pub live_cell : Row → ℕ → Cell
live_cell row place = if is_live row place then Live else Blank

abbrev pub eventless_cell : Row → ℕ → Option AnySquash → Cell
eventless_cell row place None = live_cell row place
eventless_cell row place (Some squash) = if squash.place == place then Squash squash.by else live_cell row place

abbrev pub cell_by : Row → ℕ → Option EventKind → Cell
cell_by row place (Some kind) = Event kind
cell_by row place None = eventless_cell row place row.squashed

unfoldable pub cell_at : Row → ℕ → Cell
cell_at row place = cell_by row place (kind_at row place)

-- The character that a cell is drawn as, and the one in a row.
abbrev pub cell_letter : Cell → ℕ
cell_letter Blank = 32
cell_letter Live = 46
cell_letter (Event kind) = letter_of kind
cell_letter (Squash by) = 120

abbrev pub letter_at : Row → ℕ → ℕ
letter_at row place = cell_letter (cell_at row place)
