-- Which instructions a chart draws. (This project's own choice.)
use Rattle.std.specs.Prelude.{ℕ, ◌-◌, min, Bool, true, false, not, ◌==◌, ◌&&◌, nat_lt, if◌then◌else◌}
use Rattle.std.specs.Prelude.{List, filter, slice_get, Option, None, Some, option_map}
use Rattle.smt_model.specs.{Basics.or_else}
use Rattle.chart_rows.specs.{declared.row.Row.Row, declared.row.Squash.Squash, declared.view.View.View}

abbrev pub place_of_squash : Option Squash → Option ℕ
place_of_squash None = None
place_of_squash (Some squash) = Some squash.place

-- The place of the last that stands in a row: its retirement, else its drop, else its squash.
abbrev pub last_place : Row → Option ℕ
last_place row = or_else row.retired (or_else row.dropped (place_of_squash row.squashed))

abbrev pub is_before : Option ℕ → ℕ → Bool
is_before None place = false
is_before (Some at) place = nat_lt at place

-- The instructions of a hart are drawn: it is the one that is named, or none is named.
abbrev pub draws_hart : Option ℕ → ℕ → Bool
draws_hart None hart = true
draws_hart (Some one) hart = one == hart

-- An instruction is drawn: its hart is, and something of it stands in the columns that are drawn, of
-- which there is none where the last event that is drawn is before the first.
abbrev pub shows : View → Row → Bool
shows view row =
    draws_hart view.hart row.hart
    && (not (nat_lt view.to view.from)
    && (not (nat_lt view.to row.fetched) && not (is_before (last_place row) view.from)))

-- What is drawn of a history of so many events, where these are the first and the last that are asked for: no more than
-- there are, and nothing of none.
abbrev pub view_of : ℕ → ℕ → Option ℕ → ℕ → View
view_of from to hart events =
    if events == 0 then record { from = 1; to = 0; hart = hart }
    else record { from = from; to = min to (events - 1); hart = hart }
