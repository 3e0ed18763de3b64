-- How much a picture may show. (This project's own choice.)
use Rattle.std.specs.Prelude.{ℕ, ◌-◌, List, filter, slice_get, Option, option_map}
use Rattle.chart_rows.specs.{declared.row.Row.Row, declared.view.View.View, Views.shows}

-- A picture has so many instructions at most. Where more are drawn, the event before the first that is too many: up to
-- it no more are.
abbrev pub most_pictured : ℕ
most_pictured = 4000

abbrev pub last_pictured : View → List Row → Option ℕ
last_pictured view rows = option_map (λ row. row.fetched - 1) (slice_get (filter (shows view) rows) most_pictured)
