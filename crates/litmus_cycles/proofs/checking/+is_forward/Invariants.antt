use Rattle.std.proofs.Common.{length}
use Rattle.litmus_cycles.proofs.checking.+is_forward.Given as goal

abbrev pub decreases-is_forward : goal.decreases-is_forward
decreases-is_forward l = length l.order.now
