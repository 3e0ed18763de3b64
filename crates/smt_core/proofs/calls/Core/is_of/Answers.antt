use Rattle.std.proofs.Common.{rules}
use Rattle.smt_core.proofs.calls.Core.is_of.Goals as goal

pub returns : goal.returns
returns c = search rules
