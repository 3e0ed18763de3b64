use Rattle.std.proofs.Common.{◌+◌, ◌*◌}
use Rattle.std.specs.Io.KnownBytes.{Appends}
use Rattle.chart_rows.specs.Order.{AreByFetch, AreOver}
use Rattle.charts.specs.Drawings.{drawing_of}
use Rattle.charts.specs.Text.{bands_text}
use Rattle.charts.proofs.text.write_text.Given as goal

-- so many bands are written, and nothing stands in the rows before `first` from the next one on
abbrev pub invariant-loop-number : goal.invariant-loop-number
invariant-loop-number g l = record {
  written : AreByFetch l.chart.rows.now → Appends (g.W.Write.contents l.fn.out) (g.W.Write.contents l.out)
      (bands_text l.widths (drawing_of l.chart) l.columns l.number);
  over : AreOver l.chart.rows.now l.first (l.chart.view.from + l.number * l.columns);
}
