use Rattle.text_fields.proofs.Appending.{each_step}
use Rattle.story_pictures.specs.Arrows.{arrow_from}
use Rattle.story_pictures.proofs.arrows.write_arrows_to.Goals as goal

pub loop-index-preserved : goal.loop-index-preserved
loop-index-preserved g c =
    each_step (arrow_from c.args.earlier.now c.args.read.now) _ _ _ _ _ _ c.loop-index-test.true
    c.loop-index.invariant c.in_ok-write_arrow_from.ensures
