use Rattle.std.proofs.Common.{take}
use Rattle.std.specs.Io.KnownBytes.{Appends}
use Rattle.text_fields.specs.Each.{each_from}
use Rattle.symbols.specs.Tables.{table_of}
use Rattle.stuck_harts.specs.Lines.{spin_text}
use Rattle.stuck_harts.proofs.line.write_spins.Given as goal

-- what is shown at the pcs so far is written
abbrev pub invariant-loop-index : goal.invariant-loop-index
invariant-loop-index g l = Appends (g.W.Write.contents l.fn.out) (g.W.Write.contents l.out)
    (each_from (spin_text (table_of l.names)) 0 (take l.index l.spins))
