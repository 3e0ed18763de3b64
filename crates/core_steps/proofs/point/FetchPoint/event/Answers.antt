use Rattle.std.proofs.Common.{rules}
use Rattle.core_steps.proofs.point.FetchPoint.event.Goals as goal

pub returns : goal.returns
returns c = search rules
