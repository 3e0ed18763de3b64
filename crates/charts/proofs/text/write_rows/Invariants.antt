use Rattle.std.proofs.Common.{take}
use Rattle.std.specs.Io.KnownBytes.{Appends}
use Rattle.text_fields.specs.Each.{each_from}
use Rattle.chart_rows.specs.Order.{AreByFetch, AreOver}
use Rattle.charts.specs.Drawings.{drawing_of}
use Rattle.charts.specs.Text.{row_text}
use Rattle.charts.proofs.text.write_rows.Given as goal

-- the rows so far are written
abbrev pub invariant-loop-number : goal.invariant-loop-number
invariant-loop-number g l = AreByFetch l.chart.rows.now → AreOver l.chart.rows.now l.first l.band.from
    → Appends (g.W.Write.contents l.fn.out) (g.W.Write.contents l.out)
    (each_from (row_text l.widths (drawing_of l.chart) l.band) 0 (take l.number l.chart.rows.now))
