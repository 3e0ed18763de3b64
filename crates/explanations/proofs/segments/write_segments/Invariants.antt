use Rattle.std.proofs.Common.{take}
use Rattle.std.specs.Io.KnownBytes.{Appends}
use Rattle.explanations.specs.ImageText.{segment_lines}
use Rattle.explanations.proofs.segments.write_segments.Given as goal

-- the lines of the segments so far are written
abbrev pub invariant-loop-number : goal.invariant-loop-number
invariant-loop-number g l =
    Appends (g.W.Write.contents l.fn.out) (g.W.Write.contents l.out) (segment_lines (take l.number l.headers))
