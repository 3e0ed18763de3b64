use Rattle.std.proofs.Common.{take}
use Rattle.std.specs.Io.KnownBytes.{Appends}
use Rattle.text_fields.specs.Each.{each_from}
use Rattle.reports.specs.Tables.{job_text}
use Rattle.reports.proofs.tables.write_open_jobs.Given as goal

-- those of the actors so far are written
abbrev pub invariant-loop-actor : goal.invariant-loop-actor
invariant-loop-actor g l =
    Appends (g.W.Write.contents l.fn.out) (g.W.Write.contents l.out) (each_from job_text 0 (take l.actor l.jobs))
