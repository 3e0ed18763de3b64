use Rattle.std.proofs.Common.{◌≡◌}
use Rattle.charts.specs.{Drawings.drawing_of, Text.places}
use Rattle.charts.specs.Counted.{height_over}
use Rattle.charts.proofs.text.counted.height_of.Given as goal

-- the columns from this one on are left
abbrev pub invariant-loop-column : goal.invariant-loop-column
invariant-loop-column l = height_over (drawing_of l.chart) l.counter l.tall (places l.column l.band.to)
    ≡ height_over (drawing_of l.chart) l.counter 1 (places l.band.from l.band.to)
