use Rattle.std.proofs.Common.{◌≡◌}
use Rattle.symbols.specs.Symbols.{names_among}
use Rattle.symbols.proofs.reading.read_entries.Given as goal

abbrev pub invariant-loop-index : goal.invariant-loop-index
invariant-loop-index l = l.symbols.items ≡ names_among l.file l.names l.place l.index
