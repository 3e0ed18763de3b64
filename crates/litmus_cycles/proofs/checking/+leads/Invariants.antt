use Rattle.std.proofs.Common.{length}
use Rattle.litmus_cycles.proofs.checking.+leads.Given as goal

abbrev pub decreases-leads : goal.decreases-leads
decreases-leads l = length l.edges.now
