use Rattle.std.proofs.Common.{take}
use Rattle.std.specs.Io.KnownBytes.{Appends}
use Rattle.litmus_suites.specs.Expecting.{gone_text}
use Rattle.litmus_suites.proofs.expectation.Expectation.write_gone.Given as goal

-- the lines so far are written
abbrev pub invariant-loop-line : goal.invariant-loop-line
invariant-loop-line g l = Appends (g.W.Write.contents l.fn.out) (g.W.Write.contents l.out)
    (gone_text (take l.line-index l.line-items))
