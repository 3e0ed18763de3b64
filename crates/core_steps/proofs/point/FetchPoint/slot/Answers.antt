use Rattle.std.proofs.Common.{rules}
use Rattle.core_steps.proofs.point.FetchPoint.slot.Goals as goal

pub returns : goal.returns
returns c = search rules
