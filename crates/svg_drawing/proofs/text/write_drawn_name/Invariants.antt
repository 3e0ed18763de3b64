use Rattle.std.proofs.Common.{take}
use Rattle.std.specs.Io.KnownBytes.{Appends}
use Rattle.svg_drawing.specs.Text.{drawn_name}
use Rattle.svg_drawing.proofs.text.write_drawn_name.Given as goal

-- the bytes so far are written
abbrev pub invariant-loop-byte : goal.invariant-loop-byte
invariant-loop-byte g l = Appends (g.W.Write.contents l.fn.out) (g.W.Write.contents l.out)
    (drawn_name (take l.byte-index l.name))
