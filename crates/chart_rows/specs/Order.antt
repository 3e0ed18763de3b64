-- In which order the rows of a chart come. (This project's own choice.)
use Rattle.std.specs.Prelude.{◌≡◌, ℕ, ◌<◌, ◌≤◌, true, List, length, get_or}
use Rattle.chart_rows.specs.{declared.row.Row.Row, Views.is_before, Views.last_place}

-- No row was fetched before one with a lower number.
abbrev pub AreByFetch : List Row → Type 0
AreByFetch rows = (i j : ℕ) (d : Row) → i ≤ j → j < length rows → (get_or rows i d).fetched ≤ (get_or rows j d).fetched

-- Nothing stands from this event on in the rows from number `first` to `next`.
abbrev pub AreOverBefore : List Row → ℕ → ℕ → ℕ → Type 0
AreOverBefore rows first next place = (k : ℕ) (d : Row) → first ≤ k → k < next
    → is_before (last_place (get_or rows k d)) place ≡ true

abbrev pub AreOver : List Row → ℕ → ℕ → Type 0
AreOver rows first place = AreOverBefore rows 0 first place
