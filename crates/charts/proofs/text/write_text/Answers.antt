use Rattle.std.proofs.Common.{◌<◌, arith}
use Rattle.charts.specs.Drawings.{drawing_of}
use Rattle.charts.proofs.Lines.{next_band}
use Rattle.charts.proofs.text.write_text.Goals as goal

pub loop-number-preserved : goal.loop-number-preserved
loop-number-preserved g c =
    let wide : 1 < c.columns_in-columns.result = omega (arith, c.columns_in-columns.ensures) in
    let step = next_band c.of-widths.result (drawing_of c.args.chart.now)
    c.columns_in-columns.result (g.W.Write.contents c.args.out.now) c.loop-number.number c.bands-number-end.result
    c.loop-number.first c.first_left-first.result c.band-band.result (g.W.Write.contents c.loop-number.out)
    (g.W.Write.contents c.write_gap.new.out) (g.W.Write.contents c.write_band.new.out) c.loop-number-test.true wide
    c.bands-number-end.ensures c.band-band.ensures c.loop-number.invariant.over c.first_left-first.ensures
    c.loop-number.invariant.written c.in_ok-write_gap.ensures c.in_ok-write_band.ensures in
    record { written = step.0; over = step.1 }
