use Rattle.text_fields.proofs.Appending.{each_step}
use Rattle.explanations.specs.ImageRefusal.{wrong_size}
use Rattle.explanations.proofs.segment_fault.write_wrong_size.Goals as goal

pub loop-number-preserved : goal.loop-number-preserved
loop-number-preserved g c =
    each_step wrong_size _ _ _ _ _ _ c.loop-number-test.true
    c.loop-number.invariant c.in_ok-write_where_wrong_size.ensures
