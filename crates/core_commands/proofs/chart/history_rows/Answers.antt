use Rattle.core_commands.proofs.OfChart.{history_of}
use Rattle.core_commands.proofs.chart.history_rows.Goals as goal

pub rows_of-requires-clause-history : goal.rows_of-requires-clause-history
rows_of-requires-clause-history c =
    rw c.events.ensures
    (history_of c.args.settings.now c.args.image.now c.args.trace.now c.in_ok-follow_all.field-0
    c.in_ok-follow_all.ensures.whole c.in_ok-follow_all.ensures.shown)
