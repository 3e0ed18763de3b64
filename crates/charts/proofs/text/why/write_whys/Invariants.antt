use Rattle.chart_rows.specs.Order.{AreByFetch, AreOver}
use Rattle.charts.specs.Text.{places}
use Rattle.charts.specs.Whys.{whys_over}
use Rattle.charts.proofs.Lines.{IsLeft}
use Rattle.charts.proofs.text.why.write_whys.Given as goal

-- what is said of the events from this place on is left
abbrev pub invariant-loop-place : goal.invariant-loop-place
invariant-loop-place g l = AreByFetch l.chart.rows.now → AreOver l.chart.rows.now l.first l.band.from
    → IsLeft (g.W.Write.contents l.fn.out) (g.W.Write.contents l.out)
    (whys_over l.chart.rows.now l.chart.events.now l.shown l.chart.columns.now (places l.place l.to))
    (whys_over l.chart.rows.now l.chart.events.now l.shown l.chart.columns.now (places l.from l.to))
