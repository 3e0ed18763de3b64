use Rattle.std.proofs.Common.{length}
use Rattle.litmus_cycles.proofs.coherence.+all_keep_order.Given as goal

abbrev pub decreases-all_keep_order : goal.decreases-all_keep_order
decreases-all_keep_order l = length l.left.now
