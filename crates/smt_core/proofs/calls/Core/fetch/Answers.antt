use Rattle.std.proofs.Common.{rules}
use Rattle.smt_core.proofs.calls.Core.fetch.Goals as goal

pub returns-clause-predicted : goal.returns-clause-predicted
returns-clause-predicted g c = search rules

pub returns-in_default-clause-answered : goal.returns-in_default-clause-answered
returns-in_default-clause-answered g c = search rules
