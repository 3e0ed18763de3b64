use Rattle.std.proofs.Common.{flat_map, take}
use Rattle.std.specs.Io.KnownBytes.{Appends}
use Rattle.litmus_histograms.specs.{Counting.in_rows, Text.bar_for}
use Rattle.litmus_histograms.proofs.histogram.write_bars.Given as goal

-- so many are written
abbrev pub invariant-loop-index : goal.invariant-loop-index
invariant-loop-index g l = Appends (g.W.Write.contents l.fn.out) (g.W.Write.contents l.out)
    (flat_map (bar_for l.test (in_rows l.rows)) (take l.index l.outcomes.listed))
