use Rattle.text_fields.proofs.Appending.{each_step}
use Rattle.explanations.specs.ImageRefusal.{code_line}
use Rattle.explanations.proofs.segment_fault.write_code.Goals as goal

pub loop-number-preserved : goal.loop-number-preserved
loop-number-preserved g c =
    each_step code_line _ _ _ _ _ _ c.loop-number-test.true c.loop-number.invariant c.in_ok-write_where_code.ensures
