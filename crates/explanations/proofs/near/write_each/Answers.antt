use Rattle.text_fields.proofs.Appending.{each_step}
use Rattle.explanations.specs.ConfigRefusal.{listed}
use Rattle.explanations.proofs.near.write_each.Goals as goal

pub loop-place-preserved : goal.loop-place-preserved
loop-place-preserved g c = each_step (λ place name. listed place name.now) _ _ _ _ _ _ c.loop-place-test.true
    c.loop-place.invariant c.in_ok-write_listed.ensures
