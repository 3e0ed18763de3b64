use Rattle.std.proofs.Common.{◌∙◌, ap}
use Rattle.std.specs.Prelude.{Err}
use Rattle.actors.specs.declared.refused.RunRefused.TheVariants as refused
use Rattle.core_state.specs.declared.refused.CoreRefused.TheVariants as core_refused
use Rattle.actors.proofs.Refusing.{roles_config, config_roles, memory_config, memory_roles, no_err, this, another, none, by_core, by_memory, accepted, lacks, both}
use Rattle.actors.proofs.running.make_core.Goals as goal

pub returns-in-Ok-clause-config : goal.returns-in-Ok-clause-config
returns-in-Ok-clause-config c =
    none c.in-Ok.core refused.Config (by_core c.in-Ok.core core_refused.Config _ c.in-Ok.ensures.refused)

pub returns-in-Ok-clause-roles : goal.returns-in-Ok-clause-roles
returns-in-Ok-clause-roles c =
    none c.in-Ok.core refused.Roles (λ p. p.1 (c.has_every_role-complete.ensures.0 c.if-complete.true))

pub returns-in-Ok-clause-thread : goal.returns-in-Ok-clause-thread
returns-in-Ok-clause-thread c =
    no_err c.in-Ok.core refused.Thread

pub returns-in-Ok-clause-setup : goal.returns-in-Ok-clause-setup
returns-in-Ok-clause-setup c =
    c.in-Ok.ensures.setup

pub returns-in-Ok-clause-limit : goal.returns-in-Ok-clause-limit
returns-in-Ok-clause-limit c =
    c.in-Ok.ensures.limit

pub returns-in-Ok-2-clause-config : goal.returns-in-Ok-2-clause-config
returns-in-Ok-2-clause-config c =
    another _ refused.Roles refused.Config roles_config
    (by_core c.in-Ok.core core_refused.Config _ c.in-Ok.ensures.refused)

pub returns-in-Ok-2-clause-roles : goal.returns-in-Ok-2-clause-roles
returns-in-Ok-2-clause-roles c =
    this _ refused.Roles (
      accepted _ (by_core c.in-Ok.core core_refused.Config _ c.in-Ok.ensures.refused),
      lacks _ c.if-complete.false c.has_every_role-complete.ensures,
    )

pub returns-in-Err-Config-clause-config : goal.returns-in-Err-Config-clause-config
returns-in-Err-Config-clause-config c =
    this _ refused.Config (c.new_core.ensures.refused.0 (c.in-Err-Config.is ∙ ap (λ e. Err e) c.in-Err-Config.field-0-is))

pub returns-in-Err-Config-clause-roles : goal.returns-in-Err-Config-clause-roles
returns-in-Err-Config-clause-roles c =
    another _ refused.Config refused.Roles config_roles
    (both (c.new_core.ensures.refused.0 (c.in-Err-Config.is ∙ ap (λ e. Err e) c.in-Err-Config.field-0-is)))

pub returns-in-Err-Memory-clause-config : goal.returns-in-Err-Memory-clause-config
returns-in-Err-Memory-clause-config c =
    another _ refused.Memory refused.Config memory_config
    (by_memory c.new_core.result c.in-Err-Memory.field-0 _ c.in-Err-Memory.is c.in-Err-Memory.field-0-is c.new_core.ensures.refused)

pub returns-in-Err-Memory-clause-roles : goal.returns-in-Err-Memory-clause-roles
returns-in-Err-Memory-clause-roles c =
    another _ refused.Memory refused.Roles memory_roles (λ p. p.1 (c.has_every_role-complete.ensures.0 c.if-complete-2.true))

pub returns-in-Err-Memory-2-clause-config : goal.returns-in-Err-Memory-2-clause-config
returns-in-Err-Memory-2-clause-config c =
    another _ refused.Roles refused.Config roles_config
    (by_memory c.new_core.result c.in-Err-Memory.field-0 _ c.in-Err-Memory.is c.in-Err-Memory.field-0-is
    c.new_core.ensures.refused)

pub returns-in-Err-Memory-2-clause-roles : goal.returns-in-Err-Memory-2-clause-roles
returns-in-Err-Memory-2-clause-roles c =
    this _ refused.Roles (
      accepted _
          (by_memory c.new_core.result c.in-Err-Memory.field-0 _ c.in-Err-Memory.is c.in-Err-Memory.field-0-is
          c.new_core.ensures.refused),
      lacks _ c.if-complete-2.false c.has_every_role-complete.ensures,
    )
