use Rattle.std.proofs.Common.{◌≤◌, ◌+◌, ◌-◌}
use Rattle.charts.specs.{Drawings.drawing_of, Text.places}
use Rattle.charts.specs.Counted.{digits_over}
use Rattle.charts.proofs.Lines.{IsLeft}
use Rattle.charts.proofs.text.counted.write_digits.Given as goal

-- the digits from this column on are left, and no more blanks are due than there were columns
abbrev pub invariant-loop-column : goal.invariant-loop-column
invariant-loop-column g l = record {
  left : IsLeft (g.W.Write.contents l.fn.out) (g.W.Write.contents l.out)
      (digits_over (drawing_of l.chart) l.counter l.left l.due (places l.column l.band.to))
      (digits_over (drawing_of l.chart) l.counter l.left l.blanks (places l.band.from l.band.to));
  due : l.due ≤ l.blanks + (l.column - l.band.from);
}
