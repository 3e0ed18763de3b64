use Rattle.std.proofs.Common.{◌∙◌, subst, sym}
use Rattle.actors.specs.Roles.{HaveEveryRole}
use Rattle.actors.proofs.EveryRole.{each, are_there, every_role}
use Rattle.actors.proofs.roles.has_every_role.Goals as goal

pub returns : goal.returns
returns c = (
  λ yes. subst HaveEveryRole c.as_slice.ensures.value (each _ (sym c.contain_all.ensures ∙ yes)),
  λ have. c.contain_all.ensures ∙ are_there _ every_role (subst HaveEveryRole (sym c.as_slice.ensures.value) have),
)
