use Rattle.std.proofs.Common.{flat_map}
use Rattle.std.specs.Io.KnownBytes.{Appends}
use Rattle.smt_model.specs.{Basics.below}
use Rattle.story_text.specs.Fields.{head_cell}
use Rattle.story_text.proofs.line.write_harts.Given as goal

-- the harts so far are written
abbrev pub invariant-loop-hart : goal.invariant-loop-hart
invariant-loop-hart g l = Appends (g.W.Write.contents l.fn.out) (g.W.Write.contents l.out)
    (flat_map (head_cell l.harts) (below l.hart))
