use Rattle.text_fields.proofs.Appending.{flat_step}
use Rattle.explanations.specs.ConfigText.{lacking_text}
use Rattle.explanations.proofs.settings_text.write_lacking.Goals as goal

pub loop-role-preserved : goal.loop-role-preserved
loop-role-preserved g c = flat_step (lacking_text c.args.roles.now) _ _ _ _ _ _ c.loop-role-test.true
    c.loop-role.invariant c.in_ok-write_where_lacking.ensures
