use Rattle.text_fields.proofs.Appending.{each_step}
use Rattle.explanations.specs.ConfigText.{actor_line}
use Rattle.explanations.proofs.settings_text.write_roles.Goals as goal

pub loop-actor-preserved : goal.loop-actor-preserved
loop-actor-preserved g c =
    each_step actor_line _ _ _ _ _ _ c.loop-actor-test.true c.loop-actor.invariant c.in_ok-write_role.ensures
