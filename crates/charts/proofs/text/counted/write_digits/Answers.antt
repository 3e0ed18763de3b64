use Rattle.std.proofs.Common.{◌≡◌, ◌≤◌, ◌<◌, ◌+◌, ◌-◌, ◌∙◌, sym, ap, arith, subst}
use Rattle.std.specs.Io.KnownBytes.{Appends}
use Rattle.charts.specs.{Drawings.drawing_of, Text.places}
use Rattle.charts.specs.Counted.{blanks_behind, digit_text, digits_over, number_in}
use Rattle.charts.proofs.Counting.{due_behind, next_digit, no_digit}
use Rattle.charts.proofs.Lines.{IsLeft, none_left, one_less}
use Rattle.charts.proofs.text.counted.write_digits.Goals as goal

pub loop-column-preserved : goal.loop-column-preserved
loop-column-preserved g c =
    let old = g.W.Write.contents c.args.out.now in
    let mid = g.W.Write.contents c.loop-column.out in
    let new = g.W.Write.contents c.write_digit.new.out in
    let drawing = drawing_of c.args.chart.now in
    let counter = c.args.counter in
    let left = c.args.left in
    let band = c.args.band.now in
    let column = c.loop-column.column in
    let due = c.loop-column.due in
    let below : column ≤ band.to = omega (arith, c.loop-column-test.true) in
    let same : c.as_bytes.result.now ≡ number_in drawing counter column =
    c.as_bytes.ensures.value ∙ c.deref.ensures.0 ∙ c.number_in-number.ensures in
    let behind : c.in_ok-due.due ≡ blanks_behind left due (number_in drawing counter column) =
    c.in_ok-due.ensures.0 ∙ ap (blanks_behind left due) same in
    let digit : Appends mid new (digit_text left due (number_in drawing counter column)) =
    subst (λ n. Appends mid new (digit_text left due n)) same c.in_ok-due.ensures.1 in
    record {
      left = subst (λ n. IsLeft old new (digits_over drawing counter left n (places (column + 1) band.to))
          (digits_over drawing counter left c.args.blanks (places band.from band.to))) (sym behind)
          (one_less old mid new (digit_text left due (number_in drawing counter column)) _ _ _
          (next_digit drawing counter left due column band.to below) c.loop-column.invariant.left digit);
      due = subst (λ n. n ≤ c.args.blanks + (column + 1 - band.from)) (sym behind)
          (due_behind left due c.args.blanks band.from column (number_in drawing counter column)
          (omega arith) c.loop-column.invariant.due);
    }

pub returns-in_ok-due : goal.returns-in_ok-due
returns-in_ok-due g c =
    let old = g.W.Write.contents c.args.out.now in
    let mid = g.W.Write.contents c.loop-column.out in
    let new = g.W.Write.contents c.write_digit.new.out in
    let drawing = drawing_of c.args.chart.now in
    let counter = c.args.counter in
    let left = c.args.left in
    let band = c.args.band.now in
    let column = c.loop-column.column in
    let due = c.loop-column.due in
    let below : column ≤ band.to = omega (arith, c.loop-column-test.true) in
    let above : band.to < column + 1 = omega arith in
    let same : c.as_bytes.result.now ≡ number_in drawing counter column =
    c.as_bytes.ensures.value ∙ c.deref.ensures.0 ∙ c.number_in-number.ensures in
    let digit : Appends mid new (digit_text left due (number_in drawing counter column)) =
    subst (λ n. Appends mid new (digit_text left due n)) same c.in_ok-due.ensures.1 in
    none_left old new _ (digits_over drawing counter left c.args.blanks (places band.from band.to))
    (no_digit drawing counter left (blanks_behind left due (number_in drawing counter column)) (column + 1) band.to above)
    (one_less old mid new (digit_text left due (number_in drawing counter column)) _ _ _
    (next_digit drawing counter left due column band.to below) c.loop-column.invariant.left digit)
