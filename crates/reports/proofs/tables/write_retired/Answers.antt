use Rattle.report_lines.proofs.Appending.{below_step}
use Rattle.reports.specs.Tables.{committed_at}
use Rattle.reports.proofs.tables.write_retired.Goals as goal

pub loop-index-preserved : goal.loop-index-preserved
loop-index-preserved g c =
    below_step (committed_at c.args.maps.now) _ _ _ _ c.loop-index.invariant c.in_ok-write_retired_at.ensures
