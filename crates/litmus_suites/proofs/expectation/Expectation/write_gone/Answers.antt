use Rattle.text_fields.proofs.Appending.{flat_step}
use Rattle.litmus_suites.specs.Expecting.{gone_line}
use Rattle.litmus_suites.proofs.expectation.Expectation.write_gone.Goals as goal

pub loop-line-preserved : goal.loop-line-preserved
loop-line-preserved g c =
    flat_step gone_line _ _ _ _ _ _ c.loop-line-test.true c.loop-line.invariant c.in_ok-write_gone_line.ensures
