use Rattle.std.proofs.Common.{All}
use Rattle.program_ways.specs.Keeping.{setup_here, MayHaveAt}
use Rattle.program_ways.proofs.known.Known.new.Given as goal

abbrev pub invariant-loop-location : goal.invariant-loop-location
invariant-loop-location l = All (λ held. MayHaveAt (setup_here l.program) l.shared held.location held.number) l.held.items
