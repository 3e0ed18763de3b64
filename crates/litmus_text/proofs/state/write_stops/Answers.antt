use Rattle.litmus_text.specs.State.{stop_text}
use Rattle.text_fields.proofs.Appending.{each_step}
use Rattle.litmus_text.proofs.state.write_stops.Goals as goal

pub loop-index-preserved : goal.loop-index-preserved
loop-index-preserved g c =
    each_step (stop_text c.args.first) _ _ _ c.args.statuses.now c.loop-index.index _ c.loop-index-test.true c.loop-index.invariant
    c.in_ok-write_stop.ensures
