use Rattle.std.proofs.Common.{length}
use Rattle.litmus_cycles.proofs.searching.+add_accesses.Given as goal

abbrev pub decreases-add_accesses : goal.decreases-add_accesses
decreases-add_accesses l = length l.accesses.now
