-- What an explanation says of a configuration and of an image. (This project's own choice.)
use Rattle.std.specs.Prelude.{◌≡◌, ℕ, ◌<◌, List, ◌++◌, Option, Some, None, IfSome, IfNone}
use Rattle.elf_image.specs.Image.{ProgramImage}
use Rattle.elf_image.specs.{declared.refusal.LoadRefused.LoadRefused, Refusal.reason_number}
use Rattle.elf_image.specs.{Checks.Passes, Checks.IsLoadRefusal, Loaded.IsImageOf}
use Rattle.sim_inputs.specs.{declared.settings.Settings.Settings, Configuration.IsConfiguration}
use Rattle.sim_inputs.specs.Configuration.{with_harts}
use Rattle.explanations.specs.{declared.config.ConfigExplained.ConfigExplained}
use Rattle.explanations.specs.{ConfigText.accepted_config, ConfigRefusal.IsConfigRefusedText}
use Rattle.explanations.specs.{ImageText.IsImageText, ImageRefusal.IsImageRefusedText}
use Rattle.explanations.specs.{declared.image.ImageExplained.ImageExplained}

-- A text begins with another one.
abbrev pub Begins : List ℕ → List ℕ → Type 0
Begins head text = (rest : List ℕ) × (text ≡ head ++ rest)

-- What is said of a configuration that makes these settings, with so many harts where that is given; or of one that
-- makes none.
abbrev pub IsConfigTold : Option ℕ → List ℕ → Option Settings → List ℕ → Type 0
IsConfigTold harts config (Some settings) said = said ≡ accepted_config (with_harts harts settings)
IsConfigTold harts config None said = IsConfigRefusedText config said

-- What is said of a configuration: that it is accepted, where it makes settings, and which these are; and else that it
-- is refused, and for which fault.
pub record IsConfigExplained (harts : Option ℕ) (text : List ℕ) (said : ConfigExplained) : Type 0 where
  pub accepted : IfSome said.settings (IsConfiguration text)
  pub refused : IfNone said.settings ((settings : Settings) → IsConfiguration text settings → ⊥)
  pub told : IsConfigTold harts text said.settings said.text.items

-- The check is the first that the file fails, and no want of memory.
pub record IsRefusedBy (file : List ℕ) (ram : ℕ) (check : LoadRefused) : Type 0 where
  pub is_check : reason_number check < 18
  pub refusal : IsLoadRefusal file ram check

-- The file passes every check, and is the file of an image, of which all of this is said.
pub record IsAccepted (file : List ℕ) (ram : ℕ) (text : List ℕ) : Type 0 where
  pub passes : (check : LoadRefused) → Passes file ram check
  pub image : ProgramImage
  pub is_image : IsImageOf file ram image
  pub told : IsImageText file image text

-- What is said of an image that fails no check, or this one first.
abbrev pub IsImageTold : List ℕ → ℕ → Option LoadRefused → List ℕ → Type 0
IsImageTold file ram None text = IsAccepted file ram text
IsImageTold file ram (Some check) text = IsImageRefusedText file ram check text

-- What is said of an image: that it is accepted, where it passes every check, and what is in it; and else that it is
-- refused, the number of the first check that it fails, and how it does.
pub record IsImageExplained (file : List ℕ) (ram : ℕ) (said : ImageExplained) : Type 0 where
  pub refused : IfSome said.refused (IsRefusedBy file ram)
  pub told : IsImageTold file ram said.refused said.text.items
