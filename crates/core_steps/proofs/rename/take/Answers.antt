use Rattle.std.proofs.Common.{rules}
use Rattle.core_steps.proofs.rename.take.Goals as goal

pub returns-in-Some-clause-free : goal.returns-in-Some-clause-free
returns-in-Some-clause-free c = search rules

pub returns-in-Some-clause-values : goal.returns-in-Some-clause-values
returns-in-Some-clause-values c = search rules
