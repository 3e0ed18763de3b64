use Rattle.text_fields.proofs.Appending.{each_step}
use Rattle.story_pictures.specs.Arrows.{arrows_at}
use Rattle.story_pictures.proofs.arrows.write_arrows.Goals as goal

pub loop-index-preserved : goal.loop-index-preserved
loop-index-preserved g c =
    each_step (arrows_at c.args.rows.now) _ _ _ _ _ _ c.loop-index-test.true c.loop-index.invariant
    c.in_ok-write_arrows_to.ensures
