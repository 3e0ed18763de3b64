use Rattle.std.proofs.Common.{length}
use Rattle.litmus_cycles.proofs.open.+add_sources.Given as goal

abbrev pub decreases-add_sources : goal.decreases-add_sources
decreases-add_sources l = length l.events.now
