use Rattle.std.proofs.Common.{length}
use Rattle.litmus_runs.proofs.hart.+write_starts.Given as goal

abbrev pub decreases-write_starts : goal.decreases-write_starts
decreases-write_starts l = length l.starts.now
