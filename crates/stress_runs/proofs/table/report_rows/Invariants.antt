use Rattle.std.proofs.Common.{take}
use Rattle.std.specs.Io.KnownBytes.{Appends}
use Rattle.stress_runs.specs.Table.{row_texts}
use Rattle.stress_runs.proofs.table.report_rows.Given as goal

-- the rows so far are written
abbrev pub invariant-loop-index : goal.invariant-loop-index
invariant-loop-index g l =
    Appends (g.W.Write.contents l.fn.out) (g.W.Write.contents l.out)
    (row_texts l.columns.registers.items l.columns.words.items 1 (take l.index l.rows))
