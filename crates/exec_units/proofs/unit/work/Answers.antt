use Rattle.std.proofs.Common.{rules}
use Rattle.exec_units.specs.Job.{outcome_of_job}
use Rattle.exec_units.proofs.unit.work.Goals as goal

pub new-requires : goal.new-requires
unfolding outcome_of_job
new-requires c = search rules
