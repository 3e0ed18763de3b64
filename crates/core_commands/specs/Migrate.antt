-- The command `migrate`: the trace of version 3 that has the events of an older one. (This
-- project's own choice.)
use Rattle.std.specs.Prelude.{◌≡◌, ℕ, List}
use Rattle.smt_model.specs.{declared.config.Config.Config}
use Rattle.event_text.specs.{Core.CoreSizes}
use Rattle.event_text.specs.declared.trace.migrating.MigrateRefused.TheVariants as migrate
use Rattle.event_text.specs.Refusals.{IsMigrated, IsUnmigrated}
use Rattle.sim_inputs.specs.{declared.settings.Settings.Settings}
use Rattle.command_parts.specs.{declared.refused.Refused.Refused}
use Rattle.command_parts.specs.declared.refused.Refused.TheVariants as refused

-- what a configuration says of a core
abbrev pub sizes_by : Config → CoreSizes
sizes_by config = record {
  harts = config.harts;
  extra = config.extra;
  queue = config.queue;
  roles = config.roles.items;
}

-- When each refusal comes. The output is refused only where the trace can be migrated. Of memory nothing is said.
abbrev pub IsMigrateRefusal : Settings → List ℕ → Refused → Type 0
IsMigrateRefusal settings trace refused.Version = IsUnmigrated trace migrate.Version
IsMigrateRefusal settings trace (refused.Trace line rule) = IsUnmigrated trace (migrate.Line line rule)
IsMigrateRefusal settings trace refused.Memory = IsUnmigrated trace migrate.Memory
IsMigrateRefusal settings trace refused.Output =
    (text : List ℕ) × IsMigrated trace (sizes_by settings.config) text
IsMigrateRefusal settings trace _ = ⊥

-- What the command comes to: the migrated text is in the file, of which `Put` says that, and the exit
-- status is 0.
pub record MigrateComesTo (settings : Settings) (trace : List ℕ) (Put : List ℕ → Type 0) (exit_status : ℕ)
    : Type 0 where
  pub text : List ℕ
  pub is_migrated : IsMigrated trace (sizes_by settings.config) text
  pub put : Put text
  pub zero : exit_status ≡ 0
