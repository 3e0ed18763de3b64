use Rattle.std.proofs.Common.{flat_map}
use Rattle.std.specs.Io.KnownBytes.{Appends}
use Rattle.smt_model.specs.{Basics.below}
use Rattle.story_pictures.specs.Picture.{lane_text}
use Rattle.story_pictures.proofs.picture.write_lanes.Given as goal

-- the lanes of the harts so far are written
abbrev pub invariant-loop-hart : goal.invariant-loop-hart
invariant-loop-hart g l = Appends (g.W.Write.contents l.fn.out) (g.W.Write.contents l.out)
    (flat_map (lane_text l.height) (below l.hart))
