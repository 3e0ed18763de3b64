use Rattle.text_fields.proofs.Appending.{flat_step}
use Rattle.reports.specs.Tables.{active_text}
use Rattle.reports.proofs.tables.write_actives.Goals as goal

pub loop-active-preserved : goal.loop-active-preserved
loop-active-preserved g c =
    flat_step active_text _ _ _ _ _ _ c.loop-active-test.true c.loop-active.invariant c.in_ok-write_active.ensures
