use Rattle.std.proofs.Common.{◌≤◌, ◌∙◌, ◌+◌, arith, ap, sym}
use Rattle.charts.specs.Counted.{chosen_over, places_between}
use Rattle.charts.proofs.Counting.{next_chosen}
use Rattle.charts.proofs.text.counted.chosen_in.Goals as goal

pub loop-place-preserved : goal.loop-place-preserved
loop-place-preserved c =
    let events = c.args.chart.now.events.now in
    let to = c.last-to.result in
    let place = c.loop-place.place in
    let below : place ≤ to = omega (arith, c.loop-place-test.true) in
    ap (λ text. chosen_over events text (places_between (place + 1) to)) c.chosen_by-text.ensures
    ∙ sym (next_chosen events c.loop-place.text.bytes place to below) ∙ c.loop-place.invariant
