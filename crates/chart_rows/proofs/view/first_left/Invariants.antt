use Rattle.chart_rows.specs.Order.{AreOverBefore}
use Rattle.chart_rows.proofs.view.first_left.Given as goal

-- those so far are over
abbrev pub invariant-loop-index : goal.invariant-loop-index
invariant-loop-index l = AreOverBefore l.rows l.first l.index l.place
