use Rattle.std.proofs.Common.{take}
use Rattle.std.specs.Io.KnownBytes.{Appends}
use Rattle.text_fields.specs.Each.{each_from}
use Rattle.outcome_text.specs.{Listing.told_line}
use Rattle.outcome_text.proofs.listing.write_lines.Given as goal

-- so many are written
abbrev pub invariant-loop-index : goal.invariant-loop-index
invariant-loop-index g l =
    Appends (g.W.Write.contents l.fn.out) (g.W.Write.contents l.out) (each_from (told_line l.columns.registers.items l.columns.words.items) 0 (take l.index l.outcomes.listed))
