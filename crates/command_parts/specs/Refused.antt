-- What refusals say: of files, of an image, and of the sizes of a core; and the exit status that
-- goes with each. (This project's own choice.)
use Rattle.std.specs.Prelude.{◌≡◌, ℕ, ◌<◌, true, false, List}
use Rattle.elf_image.specs.{declared.refusal.LoadRefused.LoadRefused, Checks.Passes}
use Rattle.elf_image.specs.{Checks.IsLoadRefusal, Refusal.reason_number}
use Rattle.elf_image.specs.Image.{ProgramImage}
use Rattle.core_state.specs.Setup.{setup_of}
use Rattle.smt_model.specs.Setup.{is_accepted}
use Rattle.sim_inputs.specs.{declared.settings.Settings.Settings}
use Rattle.command_parts.specs.{declared.refused.Refused.Refused, declared.refused.Unread.Unread}
use Rattle.command_parts.specs.declared.refused.Refused.TheVariants.{Image, Config, Harts, Script, Order}
use Rattle.command_parts.specs.declared.refused.Refused.TheVariants.{Step, Trace, Version, Event, Prediction}
use Rattle.command_parts.specs.declared.refused.Refused.TheVariants.{Register, NoUnit, Limit, NoHart}
use Rattle.command_parts.specs.declared.refused.Refused.TheVariants.{Picture, Memory, Thread, File, Output}
use Rattle.command_parts.specs.declared.refused.Refused.TheVariants.{Watch, Condition, ManyWatched, NoWord}
use Rattle.command_parts.specs.declared.refused.Refused.TheVariants.{NoOutcome, NotStuck, NoAnswer, Litmus}
use Rattle.command_parts.specs.declared.refused.Refused.TheVariants.{NothingToDraw, LongStory}
use Rattle.command_parts.specs.declared.refused.Refused.TheVariants.{Lines, NamesNothing, NamesSeveral, NeverFetched, Turned}
use Rattle.command_parts.specs.declared.refused.Unread.TheVariants as unread

-- The number of the exit status: 2 for an input, 4 for a trace, 5 for memory, threads, files and
-- the output.
abbrev pub exit_status_of : Refused → ℕ
exit_status_of (Image number) = 2
exit_status_of Config = 2
exit_status_of Harts = 2
exit_status_of (Script number) = 2
exit_status_of (Order index) = 2
exit_status_of (Step index why) = 2
exit_status_of (Trace line rule) = 4
exit_status_of Version = 4
exit_status_of (Event index rule) = 4
exit_status_of (Prediction index) = 4
exit_status_of (Register index) = 4
exit_status_of (NoUnit kind) = 2
exit_status_of (Limit least) = 2
exit_status_of (NoHart hart) = 2
exit_status_of (Picture last) = 2
exit_status_of LongStory = 2
exit_status_of (Lines line fault) = 2
exit_status_of (NamesNothing option) = 2
exit_status_of (NamesSeveral option) = 2
exit_status_of (NeverFetched option) = 2
exit_status_of (Turned from to) = 2
exit_status_of (Watch why) = 2
exit_status_of (Condition why) = 2
exit_status_of ManyWatched = 2
exit_status_of (NoWord address) = 2
exit_status_of (NoOutcome number) = 2
exit_status_of NotStuck = 2
exit_status_of NoAnswer = 2
exit_status_of (Litmus place fault) = 2
exit_status_of NothingToDraw = 2
exit_status_of Memory = 5
exit_status_of Thread = 5
exit_status_of File = 5
exit_status_of Output = 5

-- What is refused where a file is needed that couldn't be read.
abbrev pub refusal_of : Unread → Refused
refusal_of unread.File = File
refusal_of unread.Memory = Memory

-- The file passes every check of an image, for a memory of so many bytes.
abbrev pub PassesAll : List ℕ → ℕ → Type 0
PassesAll file ram = (check : LoadRefused) → Passes file ram check

-- The check of this number is the first that the file fails.
pub record IsFirstFailed (file : List ℕ) (ram : ℕ) (number : ℕ) : Type 0 where
  pub check : LoadRefused
  pub is_check : reason_number check < 18
  pub has_number : number ≡ reason_number check
  pub refusal : IsLoadRefusal file ram check

-- What is refused as an image is made of a file. Of memory nothing is said.
abbrev pub IsImageRefusal : List ℕ → ℕ → Refused → Type 0
IsImageRefusal file ram (Image number) = IsFirstFailed file ram number
IsImageRefusal file ram Memory = Unit {0}
IsImageRefusal file ram _ = ⊥

-- What is refused of a file's image, and behind it, where it passes every check, that of which `P`
-- says when it is refused.
abbrev pub BehindImage : List ℕ → ℕ → (Refused → Type 0) → Refused → Type 0
BehindImage file ram P (Image number) = IsFirstFailed file ram number
BehindImage file ram P Memory = Unit {0}
BehindImage file ram P reason = PassesAll file ram × P reason

-- The sizes and the limit are those of a core, whatever image it is made of; or they are those of
-- none.
abbrev pub AreAccepted : Settings → Type 0
AreAccepted settings =
    (image : ProgramImage) → is_accepted (setup_of image settings.config) settings.limit ≡ true

abbrev pub AreRefused : Settings → Type 0
AreRefused settings =
    (image : ProgramImage) → is_accepted (setup_of image settings.config) settings.limit ≡ false

-- What is refused as a core is made of some settings. Of memory nothing is said.
abbrev pub IsCoreRefusal : Settings → Refused → Type 0
IsCoreRefusal settings Config = AreRefused settings
IsCoreRefusal settings Memory = Unit {0}
IsCoreRefusal settings _ = ⊥
