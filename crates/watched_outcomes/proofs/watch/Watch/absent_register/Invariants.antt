use Rattle.watched_outcomes.proofs.Watching.{AreThereBefore}
use Rattle.watched_outcomes.proofs.watch.Watch.absent_register.Given as goal

-- those before this one are there
abbrev pub invariant-loop-index : goal.invariant-loop-index
invariant-loop-index l = AreThereBefore l.harts l.self.registers.items l.index
