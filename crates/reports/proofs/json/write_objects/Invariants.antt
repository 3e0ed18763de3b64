use Rattle.std.proofs.Common.{take}
use Rattle.std.specs.Io.KnownBytes.{Appends}
use Rattle.text_fields.specs.Each.{each_from}
use Rattle.reports.specs.{Json.hart_object}
use Rattle.reports.proofs.json.write_objects.Given as goal

-- the objects of the harts so far are written
abbrev pub invariant-loop-hart : goal.invariant-loop-hart
invariant-loop-hart g l =
    Appends (g.W.Write.contents l.fn.out) (g.W.Write.contents l.out) (each_from hart_object 0 (take l.hart l.statuses))
