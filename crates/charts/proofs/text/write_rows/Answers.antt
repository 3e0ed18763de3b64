use Rattle.charts.specs.Drawings.{drawing_of}
use Rattle.charts.proofs.Lines.{next_row, none_later, none_so_far}
use Rattle.charts.proofs.text.write_rows.Goals as goal

pub loop-number-init : goal.loop-number-init
loop-number-init g c by over =
    none_so_far c.args.widths.now (drawing_of c.args.chart.now) c.args.band.now (g.W.Write.contents c.args.out.now)
    c.args.first over

pub returns-then-row-band : goal.returns-then-row-band
returns-then-row-band g c by over =
    none_later c.args.widths.now (drawing_of c.args.chart.now) c.args.band.now (g.W.Write.contents c.args.out.now)
    c.loop-number.number _ (g.W.Write.contents c.loop-number.out) by c.loop-number-test.true c.if-row-band.true
    (c.loop-number.invariant by over)

pub loop-number-preserved : goal.loop-number-preserved
loop-number-preserved g c by over =
    next_row c.args.widths.now (drawing_of c.args.chart.now) c.args.band.now c.within-shown.result
    (g.W.Write.contents c.args.out.now) (g.W.Write.contents c.loop-number.out)
    (g.W.Write.contents c.write_row.new.out) c.loop-number.number _ c.loop-number-test.true c.within-shown.ensures
    (c.loop-number.invariant by over) c.in_ok-write_row.ensures
