use Rattle.std.proofs.Common.{rules}
use Rattle.rv_execute.proofs.computed.Computed.just_next.Goals as goal

pub returns : goal.returns
returns c = search rules
