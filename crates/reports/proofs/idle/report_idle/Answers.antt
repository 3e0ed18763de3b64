use Rattle.reports.specs.Counts.{idle_line}
use Rattle.text_fields.proofs.Appending.{each_step}
use Rattle.reports.proofs.idle.report_idle.Goals as goal

pub loop-actor-preserved : goal.loop-actor-preserved
loop-actor-preserved g c =
    each_step idle_line _ _ _ _ _ _ c.loop-actor-test.true c.loop-actor.invariant c.in_ok-write_actor.ensures
