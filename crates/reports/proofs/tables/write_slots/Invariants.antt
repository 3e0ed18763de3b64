use Rattle.std.proofs.Common.{take, flat_map}
use Rattle.std.specs.Io.KnownBytes.{Appends}
use Rattle.reports.specs.Tables.{slot_text}
use Rattle.reports.proofs.tables.write_slots.Given as goal

-- what was listed so far is written
abbrev pub invariant-loop-slot : goal.invariant-loop-slot
invariant-loop-slot g l =
    Appends (g.W.Write.contents l.fn.out) (g.W.Write.contents l.out) (flat_map slot_text (take l.slot-index l.latch))
