use Rattle.std.proofs.Common.{take, flat_map}
use Rattle.std.specs.Io.KnownBytes.{Appends}
use Rattle.reports.specs.Tables.{active_text}
use Rattle.reports.proofs.tables.write_actives.Given as goal

-- what was listed so far is written
abbrev pub invariant-loop-active : goal.invariant-loop-active
invariant-loop-active g l =
    Appends (g.W.Write.contents l.fn.out) (g.W.Write.contents l.out) (flat_map active_text (take l.active-index l.actives))
