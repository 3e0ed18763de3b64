use Rattle.std.proofs.Common.{◌≤◌, ◌<◌, ◌∙◌, ◌+◌, arith, ap, sym, max, length}
use Rattle.charts.specs.{Drawings.drawing_of, Text.places}
use Rattle.charts.specs.Counted.{height_over}
use Rattle.charts.proofs.Counting.{next_height, no_height}
use Rattle.charts.proofs.text.counted.height_of.Goals as goal

pub loop-column-preserved : goal.loop-column-preserved
loop-column-preserved c =
    let drawing = drawing_of c.args.chart.now in
    let band = c.args.band.now in
    let column = c.loop-column.column in
    let below : column ≤ band.to = omega (arith, c.loop-column-test.true) in
    ap (λ n. height_over drawing c.args.counter n (places (column + 1) band.to))
    (c.greater-tall.ensures ∙ ap (max c.loop-column.tall) (c.len.ensures.value ∙ ap length c.number_in-number.ensures))
    ∙ sym (next_height drawing c.args.counter 0 c.loop-column.tall column band.to below) ∙ c.loop-column.invariant

pub returns : goal.returns
returns c =
    let drawing = drawing_of c.args.chart.now in
    let band = c.args.band.now in
    let above : band.to < c.loop-column.column = omega arith in
    sym (no_height drawing c.args.counter 0 c.loop-column.tall c.loop-column.column band.to above)
    ∙ c.loop-column.invariant
