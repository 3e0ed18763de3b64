use Rattle.std.proofs.Common.{take}
use Rattle.std.specs.Io.KnownBytes.{Appends}
use Rattle.outcome_text.specs.Line.{columns_text}
use Rattle.outcome_text.proofs.line.write_columns.Given as goal

-- so many are written
abbrev pub invariant-loop-index : goal.invariant-loop-index
invariant-loop-index g l =
    Appends (g.W.Write.contents l.fn.out) (g.W.Write.contents l.out)
    (columns_text l.before (take l.index l.columns) l.numbers)
