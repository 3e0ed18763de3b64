use Rattle.std.proofs.Common.{rules}
use Rattle.exec_units.proofs.job.Job.new.Goals as goal

pub returns : goal.returns
returns c = search rules
