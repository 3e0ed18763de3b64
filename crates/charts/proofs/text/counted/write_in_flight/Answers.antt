use Rattle.charts.specs.{Drawings.drawing_of, Text.places}
use Rattle.charts.specs.Counted.{in_flight_text}
use Rattle.charts.proofs.Counting.{next_in_flight}
use Rattle.charts.proofs.Lines.{one_less}
use Rattle.charts.proofs.text.counted.write_in_flight.Goals as goal

pub loop-hart-preserved : goal.loop-hart-preserved
loop-hart-preserved g c =
    let drawing = drawing_of c.args.chart.now in
    let columns = places c.args.band.now.from c.args.band.now.to in
    one_less (g.W.Write.contents c.args.out.now) (g.W.Write.contents c.loop-hart.out)
    (g.W.Write.contents c.write_hart.new.out) (in_flight_text drawing c.args.indent columns c.loop-hart.hart) _ _ _
    (next_in_flight drawing c.args.indent columns c.loop-hart.hart c.args.chart.now.harts c.loop-hart-test.true)
    c.loop-hart.invariant c.in_ok-write_hart.ensures
