use Rattle.text_fields.proofs.Appending.{each_step}
use Rattle.explanations.specs.ImageRefusal.{outside_file}
use Rattle.explanations.proofs.segment_fault.write_each_outside_file.Goals as goal

pub loop-number-preserved : goal.loop-number-preserved
loop-number-preserved g c =
    each_step (outside_file c.args.length) _ _ _ _ _ _ c.loop-number-test.true
    c.loop-number.invariant c.in_ok-write_where_outside_file.ensures
