use Rattle.std.proofs.Common.{flat_map, take}
use Rattle.std.specs.Io.KnownBytes.{Appends}
use Rattle.litmus_text.specs.States.{line_if}
use Rattle.litmus_text.proofs.states.write_lines.Given as goal

-- so many are written
abbrev pub invariant-loop-index : goal.invariant-loop-index
invariant-loop-index g l = Appends (g.W.Write.contents l.fn.out) (g.W.Write.contents l.out)
    (flat_map (line_if l.test) (take l.index l.outcomes.listed))
