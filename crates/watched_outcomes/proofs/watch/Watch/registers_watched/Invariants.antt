use Rattle.watched_outcomes.proofs.Watching.{AreMarked}
use Rattle.watched_outcomes.proofs.watch.Watch.registers_watched.Given as goal

-- those before this one are marked
abbrev pub invariant-loop-register : goal.invariant-loop-register
invariant-loop-register l = AreMarked l.register-items l.register-index l.watched
