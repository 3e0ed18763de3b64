use Rattle.std.proofs.Common.{length}
use Rattle.litmus_cycles.proofs.coherence.+are_writes_in_order.Given as goal

abbrev pub decreases-are_writes_in_order : goal.decreases-are_writes_in_order
decreases-are_writes_in_order l = length l.events.now
