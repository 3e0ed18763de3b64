use Rattle.std.proofs.Common.{length}
use Rattle.litmus_cycles.proofs.searching.+add_events.Given as goal

abbrev pub decreases-add_events : goal.decreases-add_events
decreases-add_events l = length l.chosen.now
