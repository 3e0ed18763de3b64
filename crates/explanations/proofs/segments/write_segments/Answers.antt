use Rattle.text_fields.proofs.Appending.{each_step}
use Rattle.explanations.specs.ImageText.{segment_line}
use Rattle.explanations.proofs.segments.write_segments.Goals as goal

pub loop-number-preserved : goal.loop-number-preserved
loop-number-preserved g c =
    each_step segment_line _ _ _ _ _ _ c.loop-number-test.true c.loop-number.invariant c.in_ok-write_segment.ensures
