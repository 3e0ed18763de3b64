use Rattle.std.proofs.Common.{take}
use Rattle.std.specs.Io.KnownBytes.{Appends}
use Rattle.report_lines.specs.Lines.{hart_lines}
use Rattle.report_lines.proofs.standing.report_harts.Given as goal

-- the lines of the harts so far are written
abbrev pub invariant-loop-hart : goal.invariant-loop-hart
invariant-loop-hart g l =
    Appends (g.W.Write.contents l.fn.out) (g.W.Write.contents l.out) (hart_lines 0 (take l.hart l.statuses))
