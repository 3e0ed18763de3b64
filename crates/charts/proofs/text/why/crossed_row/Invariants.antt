use Rattle.std.proofs.Common.{◌≡◌, ℕ, ◌<◌, false, get_or}
use Rattle.chart_rows.specs.{declared.row.Row.Row, Order.AreOver}
use Rattle.charts.specs.Whys.{is_shown_crossed}
use Rattle.charts.proofs.text.why.crossed_row.Given as goal

-- none so far has an `x` there
abbrev pub invariant-loop-number : goal.invariant-loop-number
invariant-loop-number l = AreOver l.rows l.first l.shown.from → (k : ℕ) (d : Row) → k < l.number
    → is_shown_crossed l.shown l.column l.by (get_or l.rows k d) ≡ false
