use Rattle.std.proofs.Common.{take}
use Rattle.std.specs.Io.KnownBytes.{Appends}
use Rattle.text_fields.specs.Each.{each_from}
use Rattle.reports.specs.{Counts.idle_line}
use Rattle.reports.proofs.idle.report_idle.Given as goal

-- those of the actors so far are written
abbrev pub invariant-loop-actor : goal.invariant-loop-actor
invariant-loop-actor g l =
    Appends (g.W.Write.contents l.fn.out) (g.W.Write.contents l.out) (each_from idle_line 0 (take l.actor l.idle))
