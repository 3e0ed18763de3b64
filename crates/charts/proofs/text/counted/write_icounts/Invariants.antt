use Rattle.std.proofs.Common.{◌-◌}
use Rattle.std.specs.List.{range_with_len}
use Rattle.charts.specs.{Drawings.drawing_of, Text.places}
use Rattle.charts.specs.Counted.{icounts_over}
use Rattle.charts.proofs.Lines.{IsLeft}
use Rattle.charts.proofs.text.counted.write_icounts.Given as goal

-- those of the harts from this one on are left
abbrev pub invariant-loop-hart : goal.invariant-loop-hart
invariant-loop-hart g l = IsLeft (g.W.Write.contents l.fn.out) (g.W.Write.contents l.out)
    (icounts_over (drawing_of l.chart) l.indent (places l.band.from l.band.to)
    (range_with_len l.hart (l.chart.harts - l.hart)))
    (icounts_over (drawing_of l.chart) l.indent (places l.band.from l.band.to) (range_with_len 0 l.chart.harts))
