use Rattle.std.proofs.Common.{◌≡◌, take}
use Rattle.std.specs.Prelude.{filter}
use Rattle.address_labels.specs.Labels.{marks_of}
use Rattle.chart_rows.specs.Views.{shows}
use Rattle.charts.specs.Text.{widened_over}
use Rattle.charts.proofs.label.Widths.of.Given as goal

-- as wide as the widest of those so far
abbrev pub invariant-loop-row : goal.invariant-loop-row
invariant-loop-row l = l.widths
    ≡ widened_over (marks_of l.labels) l.initial.widths (filter (shows l.view) (take l.row-index l.rows))
