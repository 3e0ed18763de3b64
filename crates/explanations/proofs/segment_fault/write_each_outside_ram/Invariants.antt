use Rattle.std.proofs.Common.{take}
use Rattle.std.specs.Io.KnownBytes.{Appends}
use Rattle.text_fields.specs.Each.{each_from}
use Rattle.explanations.specs.ImageRefusal.{outside_ram}
use Rattle.explanations.proofs.segment_fault.write_each_outside_ram.Given as goal

-- the lines of the segments so far are written
abbrev pub invariant-loop-number : goal.invariant-loop-number
invariant-loop-number g l = Appends (g.W.Write.contents l.fn.out) (g.W.Write.contents l.out)
    (each_from (outside_ram l.ram) 0 (take l.number l.headers))
