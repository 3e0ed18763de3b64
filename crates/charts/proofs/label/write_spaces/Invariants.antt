use Rattle.std.specs.Io.KnownBytes.{Appends}
use Rattle.charts.specs.Text.{spaces}
use Rattle.charts.proofs.label.write_spaces.Given as goal

-- so many are written
abbrev pub invariant-loop-space : goal.invariant-loop-space
invariant-loop-space g l = Appends (g.W.Write.contents l.fn.out) (g.W.Write.contents l.out) (spaces l._space)
