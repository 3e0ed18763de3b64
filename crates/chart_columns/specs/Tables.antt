-- What is asked of the columns of a chart. (This project's own choice.)
use Rattle.std.specs.Prelude.{◌≡◌, ◌≢◌, ℕ, ◌-◌, ◌<◌, ◌≤◌, Bool, true, count_by, nat_le, nat_lt, if◌then◌else◌}
use Rattle.std.specs.Prelude.{List, [], ◌∷◌, length, map, Option, Some, None, option_map, Vec, slice_index_or}
use Rattle.numbers.specs.Sizes.{most_events}
use Rattle.chart_rows.specs.{declared.row.Row.Row, declared.row.Squash.Squash, declared.view.View.View}
use Rattle.chart_columns.specs.Rounds.{is_marked, marks}

-- The columns of all events; none are listed where each event has one of its own.
abbrev pub listed : {A : Type 0} → Option (Vec ℕ A) → List ℕ
listed None = []
listed (Some columns) = columns.items

-- No event has a lower column than one before it.
pub record IsTable (columns : List ℕ) : Type 0 where
  pub few : length columns ≤ most_events
  pub rises : (i j d : ℕ) → i ≤ j → j < length columns
      → slice_index_or columns i d ≤ slice_index_or columns j d

-- The column of the event at a place, where there is one.
abbrev pub column : List ℕ → ℕ → ℕ
column columns place = slice_index_or columns place place

-- The places of the first event in a column, and of the last.
abbrev pub head : List ℕ → ℕ → ℕ
head [] column = column
head (one ∷ others) column = count_by (λ other. nat_lt other column) (one ∷ others)

abbrev pub last : List ℕ → ℕ → ℕ
last [] column = column
last (one ∷ others) column = count_by (λ other. nat_le other column) (one ∷ others) - 1

-- A row, and what is drawn, with columns where the places of events were.
abbrev pub placed_squash : List ℕ → Squash → Squash
placed_squash columns squash = record squash { place = column columns squash.place }

abbrev pub placed : List ℕ → Row → Row
placed columns row = record row {
  fetched = column columns row.fetched;
  decoded = option_map (column columns) row.decoded;
  renamed = option_map (column columns) row.renamed;
  issued = option_map (column columns) row.issued;
  completed = option_map (column columns) row.completed;
  dropped = option_map (column columns) row.dropped;
  retired = option_map (column columns) row.retired;
  refetched = option_map (column columns) row.refetched;
  squashed = option_map (placed_squash columns) row.squashed;
}

abbrev pub placed_view : List ℕ → View → View
placed_view columns view =
    if nat_lt view.to view.from then view
    else record view { from = column columns view.from; to = column columns view.to }

-- No two marks of a row at different places have one column.
pub record KeepsApart (columns : List ℕ) (row : Row) : Type 0 where
  pub apart : (one other : ℕ) → one < other → other < length columns → is_marked one (marks row) ≡ true
      → is_marked other (marks row) ≡ true → column columns one < column columns other
