use Rattle.std.proofs.Common.{rules}
use Rattle.smt_core.proofs.calls.Core.harts.Goals as goal

pub returns-clause-harts : goal.returns-clause-harts
returns-clause-harts c = search rules
