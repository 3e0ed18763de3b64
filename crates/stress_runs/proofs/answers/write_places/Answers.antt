use Rattle.stress_runs.proofs.Rows.{place_step}
use Rattle.stress_runs.proofs.answers.write_places.Goals as goal

pub loop-index-preserved : goal.loop-index-preserved
loop-index-preserved g c =
    place_step c.args.watch.now c.args.question.now _ _ _ c.args.rows.now c.loop-index.index c.index-rows-index.result
    c.settles.result c.loop-index-test.true c.index-rows-index.is c.settles.ensures c.loop-index.invariant
    c.in_ok-write_place.ensures
