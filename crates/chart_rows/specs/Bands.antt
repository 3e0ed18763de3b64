-- The bands of a chart: columns that stand side by side, one band below the other. (This project's own choice.)
use Rattle.std.specs.Prelude.{ℕ, ◌+◌, ◌-◌, ◌*◌, ◌/◌, min, Bool, false, ◌&&◌, nat_le, nat_lt, if◌then◌else◌, Option, None, Some}
use Rattle.chart_rows.specs.{declared.view.View.View, declared.band.Band.Band}

-- How many there are, of so many columns each; and the one with this number.
abbrev pub bands_of : View → ℕ → ℕ
bands_of view columns = if nat_lt view.to view.from then 0 else (view.to - view.from) / columns + 1

abbrev pub band_of : View → ℕ → ℕ → Band
band_of view columns number = record {
  from = view.from + number * columns;
  to = min (view.from + number * columns + (columns - 1)) view.to;
}

abbrev pub within : View → Band → View
within view band = record { from = band.from; to = band.to; hart = view.hart }

-- What stands in a row ends in the band with the last of it, or with the band.
abbrev pub last_column : Band → Option ℕ → ℕ
last_column band None = band.to
last_column band (Some last) = min last band.to

-- The place stands in the band.
abbrev pub has_place : Band → Option ℕ → Bool
has_place band None = false
has_place band (Some place) = nat_le band.from place && nat_le place band.to
