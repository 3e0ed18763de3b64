use Rattle.report_lines.proofs.Appending.{below_step}
use Rattle.reports.specs.Tables.{hart_at}
use Rattle.reports.proofs.tables.write_harts.Goals as goal

pub loop-hart-preserved : goal.loop-hart-preserved
loop-hart-preserved g c =
    below_step (hart_at c.args.parts.now) _ _ _ _ c.loop-hart.invariant c.in_ok-write_hart_of.ensures
