use Rattle.report_lines.proofs.Appending.{below_step}
use Rattle.story_pictures.specs.Picture.{lane_text}
use Rattle.story_pictures.proofs.picture.write_lanes.Goals as goal

pub loop-hart-preserved : goal.loop-hart-preserved
loop-hart-preserved g c =
    below_step (lane_text c.args.height) _ _ _ c.loop-hart.hart c.loop-hart.invariant c.in_ok-write_lane.ensures
