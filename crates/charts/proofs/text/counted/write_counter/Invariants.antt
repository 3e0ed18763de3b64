use Rattle.std.proofs.Common.{◌-◌}
use Rattle.charts.specs.{Drawings.drawing_of, Text.places}
use Rattle.charts.specs.Counted.{lines_from}
use Rattle.charts.proofs.Lines.{IsLeft}
use Rattle.charts.proofs.text.counted.write_counter.Given as goal

-- as many lines are left as have digits left
abbrev pub invariant-loop-line : goal.invariant-loop-line
invariant-loop-line g l = IsLeft (g.W.Write.contents l.fn.out) (g.W.Write.contents l.out)
    (lines_from (drawing_of l.chart) l.counter l.indent (places l.band.from l.band.to) (l.tall - l.line))
    (lines_from (drawing_of l.chart) l.counter l.indent (places l.band.from l.band.to) l.tall)
