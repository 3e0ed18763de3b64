use Rattle.reports.specs.Tables.{job_text}
use Rattle.text_fields.proofs.Appending.{each_step}
use Rattle.reports.proofs.tables.write_open_jobs.Goals as goal

pub loop-actor-preserved : goal.loop-actor-preserved
loop-actor-preserved g c =
    each_step job_text _ _ _ _ _ _ c.loop-actor-test.true c.loop-actor.invariant c.in_ok-write_job.ensures
