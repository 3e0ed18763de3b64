use Rattle.std.proofs.Common.{◌≡◌, ◌≤◌, take, length}
use Rattle.std.specs.Prelude.{filter}
use Rattle.chart_rows.specs.Views.{shows}
use Rattle.charts.specs.Pictures.{most_pictured}
use Rattle.charts.proofs.svg.last_pictured.Given as goal

-- so many of those so far are drawn, which aren't too many
abbrev pub invariant-loop-row : goal.invariant-loop-row
invariant-loop-row l = record {
  counted : l.count ≡ length (filter (shows l.view) (take l.row-index l.rows));
  few : l.count ≤ most_pictured;
}
