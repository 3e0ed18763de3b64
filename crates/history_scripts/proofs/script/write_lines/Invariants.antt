use Rattle.std.proofs.Common.{take}
use Rattle.std.specs.Io.KnownBytes.{Appends}
use Rattle.history_scripts.specs.Lines.{text_for}
use Rattle.history_scripts.proofs.script.write_lines.Given as goal

-- the lines so far are written
abbrev pub invariant-loop-event : goal.invariant-loop-event
invariant-loop-event g l = Appends (g.W.Write.contents l.fn.out) (g.W.Write.contents l.out)
    (text_for l.harts (take l.event-index l.events))
