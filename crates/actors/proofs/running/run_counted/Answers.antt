use Rattle.std.proofs.Common.{◌∙◌}
use Rattle.std.proofs.lemmas.Result.{IfOk-weaker}
use Rattle.actors.specs.declared.refused.RunRefused.TheVariants.{Config, Roles}
use Rattle.actors.proofs.Refusing.{handed_on, neither, begun}
use Rattle.actors.proofs.running.run_counted.Goals as goal

pub returns-in-Err-clause-config : goal.returns-in-Err-clause-config
returns-in-Err-clause-config g c = handed_on _ _ _ Config c.in-Err.ensures.config

pub returns-in-Err-clause-roles : goal.returns-in-Err-clause-roles
returns-in-Err-clause-roles g c = handed_on _ _ _ Roles c.in-Err.ensures.roles

pub returns-in-Ok-clause-config : goal.returns-in-Ok-clause-config
returns-in-Ok-clause-config g c =
    neither c.in-Ok.core c.run_actors-unlocked.result Config c.in-Ok.ensures.config (begun c.run_actors-unlocked.result c.run_actors-unlocked.ensures.refused).0

pub returns-in-Ok-clause-roles : goal.returns-in-Ok-clause-roles
returns-in-Ok-clause-roles g c =
    neither c.in-Ok.core c.run_actors-unlocked.result Roles c.in-Ok.ensures.roles (begun c.run_actors-unlocked.result c.run_actors-unlocked.ensures.refused).1

pub returns-in-Ok-clause-setup : goal.returns-in-Ok-clause-setup
returns-in-Ok-clause-setup g c =
    IfOk-weaker c.run_actors-unlocked.result _ _ (λ unlocked is. is.setup ∙ c.in-Ok.ensures.setup) c.run_actors-unlocked.ensures.ran

pub returns-in-Ok-clause-limit : goal.returns-in-Ok-clause-limit
returns-in-Ok-clause-limit g c =
    IfOk-weaker c.run_actors-unlocked.result _ _ (λ unlocked is. is.limit ∙ c.in-Ok.ensures.limit) c.run_actors-unlocked.ensures.ran

pub returns-in-Ok-clause-own : goal.returns-in-Ok-clause-own
returns-in-Ok-clause-own g c = IfOk-weaker c.run_actors-unlocked.result _ _ (λ unlocked is. is.own) c.run_actors-unlocked.ensures.ran

pub returns-in-Ok-clause-counted : goal.returns-in-Ok-clause-counted
returns-in-Ok-clause-counted g c = IfOk-weaker c.run_actors-unlocked.result _ _ (λ unlocked is. is.counted) c.run_actors-unlocked.ensures.ran

pub returns-in-Ok-clause-told : goal.returns-in-Ok-clause-told
returns-in-Ok-clause-told g c = IfOk-weaker c.run_actors-unlocked.result _ _ (λ unlocked is. is.told) c.run_actors-unlocked.ensures.ran

pub returns-in-Ok-clause-shown : goal.returns-in-Ok-clause-shown
returns-in-Ok-clause-shown g c = IfOk-weaker c.run_actors-unlocked.result _ _ (λ unlocked is. is.shown) c.run_actors-unlocked.ensures.ran

pub returns-in-Ok-clause-idle : goal.returns-in-Ok-clause-idle
returns-in-Ok-clause-idle g c = IfOk-weaker c.run_actors-unlocked.result _ _ (λ unlocked is. unlocked.counted) c.run_actors-unlocked.ensures.ran
