use Rattle.std.proofs.Common.{ap, Some, length, ◌≤◌, ◌∙◌, sym, arith, subst}
use Rattle.charts.proofs.Pictured.{first_beyond, none_beyond}
use Rattle.charts.proofs.svg.last_pictured.Goals as goal

pub returns-then-count-eq-MOST_PICTURED : goal.returns-then-count-eq-MOST_PICTURED
returns-then-count-eq-MOST_PICTURED c =
    ap Some c.saturating_sub.ensures
    ∙ first_beyond c.args.view.now c.args.rows.now c.loop-row.row-index _ c.loop-row-test.true
    (sym c.shows.ensures ∙ c.if-shows.true) (sym c.loop-row.invariant.counted ∙ c.if-count-eq-MOST_PICTURED.true)

pub returns : goal.returns
returns c =
    let end : length c.args.rows.now ≤ c.loop-row.row-index = omega arith in
    none_beyond c.args.view.now c.args.rows.now c.loop-row.row-index end
    (subst (λ n. n ≤ 4000) c.loop-row.invariant.counted c.loop-row.invariant.few)
