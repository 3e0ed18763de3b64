use Rattle.outcome_text.proofs.Appending.{place_step}
use Rattle.outcome_text.proofs.answers.write_places.Goals as goal

pub loop-index-preserved : goal.loop-index-preserved
loop-index-preserved g c =
    place_step c.args.watch.now c.args.question.now _ _ _ c.args.outcomes.now.listed c.loop-index.index _
    c.is_named_at.result c.loop-index-test.true c.count-index-end.ensures c.is_named_at.ensures c.loop-index.invariant
    c.in_ok-write_place.ensures
