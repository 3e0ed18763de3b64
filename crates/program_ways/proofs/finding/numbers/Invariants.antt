use Rattle.std.proofs.Common.{All}
use Rattle.program_ways.specs.Keeping.{IsOneOf}
use Rattle.program_ways.proofs.finding.numbers.Given as goal

abbrev pub invariant-loop-held : goal.invariant-loop-held
invariant-loop-held l = All (IsOneOf l.known.held.items l.location) l.all.items
