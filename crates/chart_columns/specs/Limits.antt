-- How far back the round of an event may begin, for the rows that it marks. (This project's own choice.)
use Rattle.std.specs.Prelude.{◌≡◌, ℕ, ◌<◌, Bool, ◌&&◌, ◌||◌, nat_lt, List, length, Option, slice_index_or}
use Rattle.chart_rows.specs.declared.row.Row.{Row}
use Rattle.chart_columns.specs.Rounds.{has_between, is_marked, lies_between, marks, shares_row}

-- From each place before this limit on there is such a mark, or one of such marks, and from no other.
abbrev pub IsBehind : ℕ → Option ℕ → ℕ → Type 0
IsBehind place mark limit = (from : ℕ) → nat_lt from limit ≡ lies_between from place mark

abbrev pub AreBehind : ℕ → List (Option ℕ) → ℕ → Type 0
AreBehind place all limit = (from : ℕ) → nat_lt from limit ≡ has_between from place all

-- A round that begins before this limit shares a row with the event at a place, and no other does.
abbrev pub IsLimit : List Row → ℕ → ℕ → Type 0
IsLimit rows place limit = (from : ℕ) → nat_lt from limit ≡ shares_row rows from place

pub record AreLimits (rows : List Row) (limits : List ℕ) : Type 0 where
  pub each : (place d : ℕ) → place < length limits → IsLimit rows place (slice_index_or limits place d)

-- Each limit was raised so that these marks of a row, of all that it has, are counted too; and so for some rows.
pub record AreRaisedBy (some all : List (Option ℕ)) (old new : List ℕ) : Type 0 where
  pub count : length new ≡ length old
  pub each : (place d from : ℕ) → place < length old → nat_lt from (slice_index_or new place d)
      ≡ (nat_lt from (slice_index_or old place d) || (is_marked place some && has_between from place all))

pub record AreRaised (rows : List Row) (old new : List ℕ) : Type 0 where
  pub count : length new ≡ length old
  pub each : (place d from : ℕ) → place < length old → nat_lt from (slice_index_or new place d)
      ≡ (nat_lt from (slice_index_or old place d) || shares_row rows from place)
