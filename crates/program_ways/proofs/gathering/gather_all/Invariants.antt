use Rattle.program_ways.specs.Keeping.{AreKnown}
use Rattle.program_ways.proofs.gathering.gather_all.Given as goal

abbrev pub invariant-rounds : goal.invariant-rounds
invariant-rounds l = AreKnown l.program l.shared l.known
