use Rattle.std.proofs.Common.{◌≡◌, ℕ, ◌<◌, ◌≤◌, List, get_or, length}
use Rattle.chart_rows.specs.declared.row.Row.{Row}
use Rattle.chart_columns.specs.Rounds.{column_at}
use Rattle.chart_columns.specs.Limits.{AreLimits}
use Rattle.chart_columns.proofs.Rounding.{round_at}
use Rattle.chart_columns.proofs.rounds.number_rounds.Given as goal

-- the columns of those so far stand before the limits that are left
abbrev pub invariant-loop-place : goal.invariant-loop-place
invariant-loop-place l = record {
  count : length l.table ≡ length l.events;
  start : l.round.start ≤ l.place;
  column : l.round.column ≤ l.place;
  left : (k d : ℕ) → l.place ≤ k → k < length l.events → get_or l.table k d ≡ get_or l.fn.table k d;
  round : (rows : List Row) → AreLimits rows l.fn.table → l.round ≡ round_at rows l.events l.place;
  done : (rows : List Row) → AreLimits rows l.fn.table → (k d : ℕ) → k < l.place
      → get_or l.table k d ≡ column_at rows l.events k;
}
