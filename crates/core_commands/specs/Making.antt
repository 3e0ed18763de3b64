-- What makes the runs of a command that wants many: it is called once for each, and no core comes from elsewhere. (This
-- project's own choice.) What is known of one of its calls is `step`: it stood so before, was asked for this image and
-- these settings, answered so, and stands so now.
use Rattle.std.specs.Prelude.{◌≡◌, List, [], ◌∷◌, Result, Ok, Err}
use Rattle.std.specs.{Borrow.Bor}
use Rattle.elf_image.specs.Image.{ProgramImage}
use Rattle.core_state.specs.{Setup.setup_of, View.CoreView}
use Rattle.smt_core.specs.Shown.{Shown}
use Rattle.sim_inputs.specs.declared.settings.Settings.{Settings}
use Rattle.command_parts.specs.{Refused.AreAccepted, declared.refused.Refused.Refused}
use Rattle.core_commands.specs.Run.{LackARole, IsRunRefusal}

-- A core of this image and these settings, one of those that may be shown.
pub record IsOneRun (settings : Settings) (image : ProgramImage) (core : CoreView) : Type 0 where
  pub setup : core.setup ≡ setup_of image settings.config
  pub limit : core.limit ≡ settings.limit
  pub shown : Shown core

-- What may be answered: such a core, where the settings are a core's and no role is without an actor; or why there is
-- none.
abbrev pub IsRunAnswer : Settings → ProgramImage → Result CoreView Refused → Type 0
IsRunAnswer settings image (Ok core) =
    AreAccepted settings × (LackARole settings → ⊥) × IsOneRun settings image core
IsRunAnswer settings image (Err why) = IsRunRefusal settings why

-- Each call answers so.
abbrev pub MakesRuns : {M : Type 0} → (M → Bor ProgramImage → Bor Settings → Result CoreView Refused → M → Type 0)
    → Type 0
MakesRuns {M} step = (before : M) (image : Bor ProgramImage) (settings : Bor Settings)
    (answer : Result CoreView Refused) (after : M) → step before image settings answer after
    → IsRunAnswer settings.now image.now answer

-- One call has left this core.
abbrev pub LeavesCore : {M : Type 0} → (M → Bor ProgramImage → Bor Settings → Result CoreView Refused → M → Type 0)
    → M → CoreView → M → Type 0
LeavesCore step before core after =
    (image : Bor ProgramImage) × (settings : Bor Settings) × step before image settings (Ok core) after

-- Its calls between the two have left these cores, the newest first: one call each, and there was no other.
abbrev pub AreMade : {M : Type 0} → (M → CoreView → M → Type 0) → M → M → List CoreView → Type 0
AreMade leaves old new [] = new ≡ old
AreMade {M} leaves old new (core ∷ cores) =
    (before : M) × AreMade leaves old before cores × leaves before core new
