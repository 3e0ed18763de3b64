use Rattle.std.proofs.Common.{sym, ◌∙◌}
use Rattle.address_labels.specs.Labels.{marks_of}
use Rattle.charts.proofs.Lines.{as_wide, wider}
use Rattle.charts.proofs.label.Widths.of.Goals as goal
use Rattle.charts.proofs.label.Widths.of.Goals.{then-shows, else-shows}

pub loop-row-preserved : goal.loop-row-preserved
loop-row-preserved c = elim c.if-shows.branch [
  | then-shows w ↦
      w.widths-is ∙ w.widened-widths.ensures
      ∙ wider c.args.view.now (marks_of c.args.labels.now) _ c.args.rows.now c.loop-row.row-index _
      c.loop-row-test.true c.loop-row.widths (sym c.shows.ensures ∙ w.if-shows.true) c.loop-row.invariant
  | else-shows w ↦
      w.widths-is
      ∙ as_wide c.args.view.now (marks_of c.args.labels.now) _ c.args.rows.now c.loop-row.row-index _
      c.loop-row-test.true c.loop-row.widths (sym c.shows.ensures ∙ w.if-shows.false) c.loop-row.invariant
]
