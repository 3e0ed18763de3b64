use Rattle.std.proofs.Common.{take, flat_map}
use Rattle.std.specs.Io.KnownBytes.{Appends}
use Rattle.reports.specs.Tables.{entry_text}
use Rattle.reports.proofs.tables.write_entries.Given as goal

-- what was listed so far is written
abbrev pub invariant-loop-entry : goal.invariant-loop-entry
invariant-loop-entry g l =
    Appends (g.W.Write.contents l.fn.out) (g.W.Write.contents l.out) (flat_map entry_text (take l.entry-index l.entries))
