use Rattle.reports.specs.Counts.{hart_text}
use Rattle.report_lines.proofs.Appending.{below_step}
use Rattle.reports.proofs.counts.write_units.Goals as goal

pub loop-hart-preserved : goal.loop-hart-preserved
loop-hart-preserved g c =
    below_step (hart_text c.args.form c.args.records.now) _ _ _ _ c.loop-hart.invariant c.in_ok-write_hart.ensures
