use Rattle.std.proofs.Common.{◌≤◌, [], ◌∷◌, arith, subst}
use Rattle.chart_rows.specs.{Cells.letter_at, Views.last_place}
use Rattle.chart_rows.specs.Bands.{last_column}
use Rattle.charts.proofs.Lines.{next_letter, one_less}
use Rattle.charts.proofs.text.line.write_cells.Goals as goal

pub loop-place-preserved : goal.loop-place-preserved
loop-place-preserved g c =
    let row = c.args.row.now in
    let last = last_column c.args.band.now (last_place row) in
    let below : c.loop-place.place ≤ last =
    subst (λ n. c.loop-place.place ≤ n) c.last_column-place-end.ensures (omega (arith, c.loop-place-test.true)) in
    one_less (g.W.Write.contents c.args.out.now) (g.W.Write.contents c.loop-place.out)
    (g.W.Write.contents c.write_letter.new.out) (letter_at row c.loop-place.place ∷ []) _ _ _
    (next_letter row c.loop-place.place last below) c.loop-place.invariant c.in_ok-write_letter.ensures
