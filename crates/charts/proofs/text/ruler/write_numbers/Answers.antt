use Rattle.std.proofs.Common.{◌≡◌, ◌≤◌, ◌+◌, ◌∙◌, sym, ap, arith, subst}
use Rattle.std.specs.Io.KnownBytes.{Appends}
use Rattle.chart_columns.specs.Tables.{head}
use Rattle.charts.specs.Text.{free_behind, number_over, places, ruler_from}
use Rattle.charts.proofs.Lines.{IsLeft, next_number, one_less}
use Rattle.charts.proofs.text.ruler.write_numbers.Goals as goal

pub loop-column-preserved : goal.loop-column-preserved
loop-column-preserved g c =
    let old = g.W.Write.contents c.args.out.now in
    let mid = g.W.Write.contents c.loop-column.out in
    let new = g.W.Write.contents c.write_number.new.out in
    let heads = c.args.columns.now in
    let band = c.args.band.now in
    let column = c.loop-column.column in
    let free = c.loop-column.free in
    let number = c.head-number.result in
    let below : column ≤ band.to = omega (arith, c.loop-column-test.true) in
    let same : free_behind free c.from.result number ≡ free_behind free column (head heads column) =
    ap (λ p. free_behind free p number) c.from.ensures ∙ ap (free_behind free column) c.head-number.ensures in
    subst (λ n. IsLeft old new (ruler_from heads n (places (column + 1) band.to))
    (ruler_from heads band.from (places band.from band.to)))
    (sym (c.in_ok-free.ensures.0 ∙ same))
    (one_less old mid new (number_over free column (head heads column)) _ _ _
    (next_number heads free column band.to below) c.loop-column.invariant
    (subst (λ p. Appends mid new (number_over free p (head heads column))) c.from.ensures
    (subst (λ k. Appends mid new (number_over free c.from.result k)) c.head-number.ensures c.in_ok-free.ensures.1)))
