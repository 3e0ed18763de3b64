use Rattle.std.proofs.Common.{length}
use Rattle.litmus_cycles.proofs.open.+count_all_sources.Given as goal

abbrev pub decreases-count_all_sources : goal.decreases-count_all_sources
decreases-count_all_sources l = length l.events.now
