use Rattle.std.proofs.Common.{length}
use Rattle.litmus_cycles.proofs.open.+count_writes.Given as goal

abbrev pub decreases-count_writes : goal.decreases-count_writes
decreases-count_writes l = length l.events.now
