use Rattle.std.proofs.Common.{◌-◌}
use Rattle.charts.specs.{Drawings.drawing_of, Text.places}
use Rattle.charts.specs.Counted.{counter_line}
use Rattle.charts.proofs.Counting.{next_line}
use Rattle.charts.proofs.Lines.{one_less}
use Rattle.charts.proofs.text.counted.write_counter.Goals as goal

pub loop-line-preserved : goal.loop-line-preserved
loop-line-preserved g c =
    let drawing = drawing_of c.args.chart.now in
    let columns = places c.args.band.now.from c.args.band.now.to in
    let tall = c.height_of-tall.result in
    let line = c.loop-line.line in
    one_less (g.W.Write.contents c.args.out.now) (g.W.Write.contents c.loop-line.out)
    (g.W.Write.contents c.write_counter_line.new.out)
    (counter_line drawing c.args.counter c.args.indent columns (tall - line)) _ _ _
    (next_line drawing c.args.counter c.args.indent columns tall line c.loop-line-test.true)
    c.loop-line.invariant c.in_ok-write_counter_line.ensures
