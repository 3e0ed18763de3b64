use Rattle.std.proofs.Common.{take, flat_map}
use Rattle.std.specs.Io.KnownBytes.{Appends}
use Rattle.scripts.specs.Lines.{spaced_text}
use Rattle.scripts.proofs.printing.write_others.Given as goal

-- the words so far are written
abbrev pub invariant-loop-word : goal.invariant-loop-word
invariant-loop-word g l = Appends (g.W.Write.contents l.fn.out) (g.W.Write.contents l.out)
    (flat_map spaced_text (take l.word-index l.words))
