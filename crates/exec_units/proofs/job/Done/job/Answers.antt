use Rattle.std.proofs.Common.{rules}
use Rattle.exec_units.proofs.job.Done.job.Goals as goal

pub returns : goal.returns
returns c = search rules
