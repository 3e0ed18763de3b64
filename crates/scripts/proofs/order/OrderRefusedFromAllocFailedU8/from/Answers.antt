use Rattle.std.proofs.Common.{rules}
use Rattle.scripts.proofs.order.OrderRefusedFromAllocFailedU8.from.Goals as goal

pub returns : goal.returns
returns c = search rules
