use Rattle.std.proofs.Common.{length}
use Rattle.litmus_cycles.proofs.ending.+written_last.Given as goal

abbrev pub decreases-written_last : goal.decreases-written_last
decreases-written_last l = length l.events.now
