use Rattle.schedules.proofs.Completing.{completes_nothing}
use Rattle.schedules.proofs.laws.completes_nothing_without_a_job.Goals as goal

pub returns : goal.returns
returns c = record { same = completes_nothing }
