use Rattle.std.proofs.Common.{All}
use Rattle.program_ways.specs.Keeping.{IsWordAddress}
use Rattle.program_ways.proofs.gathering.words_around.Given as goal

abbrev pub invariant-loop-address : goal.invariant-loop-address
invariant-loop-address l = All IsWordAddress l.words.items
