use Rattle.std.proofs.Common.{rules}
use Rattle.rv_execute.proofs.computed.Computed.touches.Goals as goal

pub returns : goal.returns
returns c = search rules
