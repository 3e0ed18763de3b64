use Rattle.rename_map.proofs.Places.{whole_at}
use Rattle.rename_map.proofs.checkpoints.copy_kept.Goals as goal

pub returns-then-eq-clause-whole : goal.returns-then-eq-clause-whole
returns-then-eq-clause-whole c =
    whole_at c.args.places.now c.loop-place.place-index _ c.loop-place-test.true c.requires
