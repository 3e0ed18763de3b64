use Rattle.std.proofs.Common.{◌≡◌, []}
use Rattle.charts.specs.Counted.{chosen_over, places_between}
use Rattle.charts.proofs.text.counted.chosen_in.Given as goal

-- the events from this one on are left
abbrev pub invariant-loop-place : goal.invariant-loop-place
invariant-loop-place l = chosen_over l.chart.events.now l.text.bytes (places_between l.place l.to)
    ≡ chosen_over l.chart.events.now [] (places_between l.from l.to)
