use Rattle.std.proofs.Common.{length}
use Rattle.litmus_cycles.proofs.checking.+are_all_apart.Given as goal

abbrev pub decreases-are_all_apart : goal.decreases-are_all_apart
decreases-are_all_apart l = length l.events.now
