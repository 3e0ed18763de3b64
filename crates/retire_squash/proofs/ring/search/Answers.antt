use Rattle.std.proofs.Common.{◌∙◌}
use Rattle.retire_squash.proofs.Stages.{searched}
use Rattle.retire_squash.proofs.ring.search.Goals as goal

pub loop-steps-preserved : goal.loop-steps-preserved
loop-steps-preserved c =
    searched c.args.first c.args.count c.args.places.now c.requires.length c.requires.first c.requires.count c.args.seq
    c.loop-steps.steps _ c.loop-steps-test.true (rw c.place_from-place.ensures at c.if-places-place.false)
    ∙ c.loop-steps.invariant
