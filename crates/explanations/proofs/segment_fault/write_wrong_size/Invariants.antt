use Rattle.std.proofs.Common.{take}
use Rattle.std.specs.Io.KnownBytes.{Appends}
use Rattle.text_fields.specs.Each.{each_from}
use Rattle.explanations.specs.ImageRefusal.{wrong_size}
use Rattle.explanations.proofs.segment_fault.write_wrong_size.Given as goal

-- the lines of the segments so far are written
abbrev pub invariant-loop-number : goal.invariant-loop-number
invariant-loop-number g l = Appends (g.W.Write.contents l.fn.out) (g.W.Write.contents l.out)
    (each_from wrong_size 0 (take l.number l.headers))
