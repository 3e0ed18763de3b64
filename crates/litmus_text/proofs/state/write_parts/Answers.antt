use Rattle.text_fields.proofs.Appending.{told_step}
use Rattle.litmus_text.specs.State.{part_text}
use Rattle.litmus_text.proofs.state.write_parts.Goals as goal

pub loop-index-preserved : goal.loop-index-preserved
loop-index-preserved g c =
    told_step (part_text c.args.test.now c.args.outcome.now) _ _ _ c.args.test.now.observed.items c.loop-index.index _
    c.loop-index-test.true c.observed_count-index-end.ensures c.loop-index.invariant c.in_ok-write_part.ensures
