use Rattle.program_ways.specs.Keeping.{AreKnown}
use Rattle.program_ways.proofs.known.Known.learn.Given as goal

abbrev pub invariant-loop-access : goal.invariant-loop-access
invariant-loop-access l = AreKnown l.program l.shared l.self
