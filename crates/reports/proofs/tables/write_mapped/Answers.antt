use Rattle.report_lines.proofs.Appending.{below_step}
use Rattle.reports.specs.Tables.{mapped_at}
use Rattle.reports.proofs.tables.write_mapped.Goals as goal

pub loop-index-preserved : goal.loop-index-preserved
loop-index-preserved g c =
    below_step (mapped_at c.args.maps.now) _ _ _ _ c.loop-index.invariant c.in_ok-write_mapped_at.ensures
