use Rattle.std.proofs.Common.{All}
use Rattle.program_ways.specs.Keeping.{IsWordAddress}
use Rattle.program_ways.proofs.gathering.program_ways.Given as goal

abbrev pub invariant-shared : goal.invariant-shared
invariant-shared l = All IsWordAddress l.shared.items
