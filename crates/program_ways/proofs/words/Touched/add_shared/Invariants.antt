use Rattle.std.proofs.Common.{All}
use Rattle.program_ways.specs.Keeping.{IsWordAddress}
use Rattle.program_ways.proofs.words.Touched.add_shared.Given as goal

abbrev pub invariant-loop-touch : goal.invariant-loop-touch
invariant-loop-touch l = All IsWordAddress l.shared.items
