use Rattle.std.proofs.Common.{map}
use Rattle.chart_rows.specs.{Cells.letter_at, Views.last_place}
use Rattle.charts.specs.Text.{cells_text, places}
use Rattle.chart_rows.specs.Bands.{last_column}
use Rattle.charts.proofs.Lines.{IsLeft}
use Rattle.charts.proofs.text.line.write_cells.Given as goal

-- the letters from this place on are left
abbrev pub invariant-loop-place : goal.invariant-loop-place
invariant-loop-place g l = IsLeft (g.W.Write.contents l.fn.out) (g.W.Write.contents l.out)
    (map (letter_at l.row) (places l.place (last_column l.band (last_place l.row)))) (cells_text l.row l.band)
