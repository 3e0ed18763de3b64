use Rattle.std.proofs.Common.{◌≡◌, ◌∙◌, false, ap, subst}
use Rattle.std.specs.Prelude.{◌↔◌, Err}
use Rattle.std.proofs.lemmas.Result.{IfOk-weaker}
use Rattle.smt_model.specs.Setup.{Setup, is_accepted}
use Rattle.core_state.specs.declared.refused.CoreRefused.TheVariants.{Config}
use Rattle.actors.proofs.Refusing.{same_setup}
use Rattle.actors.proofs.running.new_core.Goals as goal

pub returns-clause-setup : goal.returns-clause-setup
returns-clause-setup c =
    IfOk-weaker c.new.result _ _
    (λ core is. ap (λ v. v.setup) is ∙ same_setup c.args.image.now _ _ c.copied.ensures.sizes c.copied.ensures.roles)
    c.new.ensures.made

pub returns-clause-limit : goal.returns-clause-limit
returns-clause-limit c = IfOk-weaker c.new.result _ _ (λ core is. ap (λ v. v.limit) is) c.new.ensures.made

pub returns-clause-refused : goal.returns-clause-refused
returns-clause-refused c =
    subst (λ (s : Setup). (c.new.result ≡ Err Config) ↔ (is_accepted s c.args.limit ≡ false))
    (same_setup c.args.image.now _ _ c.copied.ensures.sizes c.copied.ensures.roles) c.new.ensures.refused
