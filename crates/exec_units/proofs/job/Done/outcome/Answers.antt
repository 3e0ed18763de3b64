use Rattle.std.proofs.Common.{rules}
use Rattle.exec_units.proofs.job.Done.outcome.Goals as goal

pub returns-clause-value : goal.returns-clause-value
returns-clause-value c = search rules
