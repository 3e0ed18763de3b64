use Rattle.std.proofs.{Common.arith, lemmas.List.get_or_default, lemmas.List.Edits.map_over_more}
use Rattle.rename_map.specs.Places.{place_released_after}
use Rattle.rename_map.proofs.checkpoints.release_each_after.Goals as goal

pub loop-place-preserved : goal.loop-place-preserved
loop-place-preserved c =
    rw c.release_after.ensures
    (map_over_more (place_released_after c.args.seq) c.args.places.now c.loop-place.places c.loop-place.place-index _
    c.loop-place-test.true c.loop-place.invariant
    (get_or_default c.loop-place.places c.loop-place.place-index _ _ (omega arith)))
