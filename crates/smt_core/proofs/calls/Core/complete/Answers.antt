use Rattle.std.proofs.Common.{rules}
use Rattle.smt_core.proofs.calls.Core.complete.Goals as goal

pub returns : goal.returns
returns c = search rules
