use Rattle.std.proofs.Common.{take}
use Rattle.std.specs.Io.KnownBytes.{Appends}
use Rattle.text_fields.specs.Each.{each_from}
use Rattle.story_pictures.specs.Arrows.{arrow_from}
use Rattle.story_pictures.proofs.arrows.write_arrows_to.Given as goal

-- the arrows from the rows so far are written
abbrev pub invariant-loop-index : goal.invariant-loop-index
invariant-loop-index g l =
    Appends (g.W.Write.contents l.fn.out) (g.W.Write.contents l.out)
    (each_from (arrow_from l.earlier l.read) 0 (take l.index l.earlier))
