-- The command `migrate`: what is refused of it, behind a configuration, and the sizes of its core.
use Rattle.std.specs.Prelude.{◌≡◌, ◌&&◌, Bool, true, false, List, ℕ, Ok}
use Rattle.std.proofs.Common.{refl}
use Rattle.event_text.specs.Core.{AreCoreSizes}
use Rattle.sim_inputs.specs.{declared.settings.Settings.Settings, Configuration.IsConfiguration}
use Rattle.command_parts.specs.declared.refused.Refused.{Refused}
use Rattle.command_parts.specs.declared.refused.Refused.TheVariants as reason
use Rattle.core_commands.specs.{Migrate.IsMigrateRefusal, Migrate.sizes_by}
use Rattle.commands.specs.{Perform.IsMigrateLineRefusal}

first_true : (x y : Bool) → (x && y) ≡ true → x ≡ true
first_true true y is = refl
first_true false y is = is

-- The sizes of a configuration are those of a core.
pub core_sizes : (text : List ℕ) (settings : Settings) → IsConfiguration text settings
    → AreCoreSizes (sizes_by settings.config)
core_sizes text settings is = first_true _ _ is.sets.in_range.accepted

module _ (text file : List ℕ) (settings : Settings) (configured : IsConfiguration text settings) where
  pub migrate_refusal : (why : Refused) → IsMigrateRefusal settings file why
      → IsMigrateLineRefusal (Ok text) (Ok file) why
  migrate_refusal (reason.Image number) is = absurd is
  migrate_refusal reason.Config is = absurd is
  migrate_refusal reason.Harts is = absurd is
  migrate_refusal (reason.Script number) is = absurd is
  migrate_refusal (reason.Order index) is = absurd is
  migrate_refusal (reason.Step index stopped) is = absurd is
  migrate_refusal (reason.Trace line rule) is = (settings, configured, is)
  migrate_refusal reason.Version is = (settings, configured, is)
  migrate_refusal (reason.Event index rule) is = absurd is
  migrate_refusal (reason.Prediction index) is = absurd is
  migrate_refusal (reason.Register index) is = absurd is
  migrate_refusal (reason.NoUnit kind) is = absurd is
  migrate_refusal (reason.Limit least) is = absurd is
  migrate_refusal (reason.NoHart hart) is = absurd is
  migrate_refusal (reason.Lines number fault) is = absurd is
  migrate_refusal (reason.NamesNothing option) is = absurd is
  migrate_refusal (reason.NamesSeveral option) is = absurd is
  migrate_refusal (reason.NeverFetched option) is = absurd is
  migrate_refusal (reason.Turned from to) is = absurd is
  migrate_refusal (reason.Picture last) is = absurd is
  migrate_refusal (reason.Watch why) is = absurd is
  migrate_refusal (reason.Condition why) is = absurd is
  migrate_refusal reason.ManyWatched is = absurd is
  migrate_refusal (reason.NoWord address) is = absurd is
  migrate_refusal (reason.NoOutcome number) is = absurd is
  migrate_refusal reason.NotStuck is = absurd is
  migrate_refusal reason.LongStory is = absurd is
  migrate_refusal reason.NoAnswer is = absurd is
  migrate_refusal (reason.Litmus place fault) is = absurd is
  migrate_refusal reason.NothingToDraw is = absurd is
  migrate_refusal reason.Memory is = tt
  migrate_refusal reason.Thread is = absurd is
  migrate_refusal reason.File is = absurd is
  migrate_refusal reason.Output is = (settings, configured, is)
