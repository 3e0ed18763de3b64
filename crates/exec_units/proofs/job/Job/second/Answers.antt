use Rattle.std.proofs.Common.{rules}
use Rattle.exec_units.proofs.job.Job.second.Goals as goal

pub returns : goal.returns
returns c = search rules
