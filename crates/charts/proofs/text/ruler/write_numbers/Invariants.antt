use Rattle.charts.specs.Text.{places, ruler_from}
use Rattle.charts.proofs.Lines.{IsLeft}
use Rattle.charts.proofs.text.ruler.write_numbers.Given as goal

-- the numbers from this column on are left
abbrev pub invariant-loop-column : goal.invariant-loop-column
invariant-loop-column g l = IsLeft (g.W.Write.contents l.fn.out) (g.W.Write.contents l.out)
    (ruler_from l.columns l.free (places l.column l.band.to))
    (ruler_from l.columns l.band.from (places l.band.from l.band.to))
