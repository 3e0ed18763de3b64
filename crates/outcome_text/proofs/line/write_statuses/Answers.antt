use Rattle.outcome_text.specs.Line.{status_text}
use Rattle.text_fields.proofs.Appending.{each_step}
use Rattle.outcome_text.proofs.line.write_statuses.Goals as goal

pub loop-index-preserved : goal.loop-index-preserved
loop-index-preserved g c =
    each_step status_text _ _ _ c.args.statuses.now c.loop-index.index _ c.loop-index-test.true c.loop-index.invariant
    c.in_ok-write_status.ensures
