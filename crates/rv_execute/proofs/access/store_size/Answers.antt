use Rattle.std.proofs.Common.{rules}
use Rattle.rv_execute.proofs.access.store_size.Goals as goal

pub returns-in-Sb-clause-value : goal.returns-in-Sb-clause-value
returns-in-Sb-clause-value c = search rules

pub returns-in-Sh-clause-value : goal.returns-in-Sh-clause-value
returns-in-Sh-clause-value c = search rules

pub returns-in-Sw-clause-value : goal.returns-in-Sw-clause-value
returns-in-Sw-clause-value c = search rules
