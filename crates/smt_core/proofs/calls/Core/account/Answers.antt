use Rattle.std.proofs.Common.{rules}
use Rattle.smt_core.proofs.calls.Core.account.Goals as goal

pub returns-clause-records : goal.returns-clause-records
returns-clause-records c = search rules
