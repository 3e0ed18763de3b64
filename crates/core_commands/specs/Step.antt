-- The command `step`: a script's asks, made of a core. (This project's own choice.)
use Rattle.std.specs.Prelude.{◌≡◌, ℕ, Bool, true, false, ◌||◌, List, ◌++◌, Option, is_some}
use Rattle.elf_image.specs.Image.{ProgramImage}
use Rattle.core_state.specs.{Setup.setup_of, View.CoreView}
use Rattle.smt_core.specs.Shown.{Shown}
use Rattle.text_fields.specs.{Printing.Prints}
use Rattle.scripts.specs.{declared.actions.ScriptWord.ScriptWord, Script.IsScript}
use Rattle.scripts.specs.{Script.IsFirstMisspelled, Session.AreCounted}
use Rattle.sim_inputs.specs.declared.settings.Settings.{Settings}
use Rattle.command_parts.specs.declared.refused.Refused.{Refused}
use Rattle.command_parts.specs.declared.refused.Refused.TheVariants.{Config, Script, Memory, Output}
use Rattle.command_parts.specs.Refused.{AreAccepted, AreRefused}
use Rattle.report_lines.specs.Lines.{status_number}
use Rattle.address_labels.specs.Labels.{Marks}
use Rattle.core_commands.specs.NamedAsks.{IsNamedText}
use Rattle.core_commands.specs.Wanted.{Wants}
use Rattle.core_commands.specs.Account.{IsAccount, idle_of, statuses_of}

-- The text is a script.
abbrev pub IsAsking : List ℕ → Type 0
IsAsking script = (words : List ScriptWord) × IsScript script words

-- When each refusal comes: the sizes of the core are looked at first, then the words of the script.
-- The output is refused only behind them. Of memory nothing is said.
abbrev pub IsStepRefusal : Settings → List ℕ → Refused → Type 0
IsStepRefusal settings script Config = AreRefused settings
IsStepRefusal settings script (Script number) =
    AreAccepted settings × IsFirstMisspelled script number
IsStepRefusal settings script Memory = Unit {0}
IsStepRefusal settings script Output = AreAccepted settings × IsAsking script
IsStepRefusal settings script _ = ⊥

-- The part of it that the reading of a script answers.
abbrev pub IsScriptRefusal : List ℕ → Refused → Type 0
IsScriptRefusal script (Script number) = IsFirstMisspelled script number
IsScriptRefusal script Memory = Unit {0}
IsScriptRefusal script _ = ⊥

-- The lines of all that a script has asked of a core, where of each actor's asks so many were answered
-- idle; where they are to be explained, some text in place of these lines, which the core has replied.
abbrev pub ArePrinted : Bool → List ℕ → CoreView → List ℕ → List ℕ → Type 0
ArePrinted false script core idle text = AreCounted script core idle text
ArePrinted true script core idle text = (lines : List ℕ) × AreCounted script core idle lines

-- A text of asks as it is printed: with what is wanted beside the pcs of its fetches, where something is.
abbrev pub IsMarkedIf : Bool → Marks → List ℕ → List ℕ → Type 0
IsMarkedIf true marks text marked = IsNamedText marks text marked
IsMarkedIf false marks text marked = marked ≡ text

abbrev pub IsMarked : Marks → List ℕ → List ℕ → Type 0
IsMarked marks text marked = IsMarkedIf (is_some marks.names || is_some marks.lines) marks text marked

abbrev pub AreMarked : Bool → Marks → List ℕ → CoreView → List ℕ → List ℕ → Type 0
AreMarked with_why marks script core idle marked =
    (text : List ℕ) × ArePrinted with_why script core idle text × IsMarked marks text marked

-- The lines of all that a script has asked of a core, and then what is printed of it.
pub record AreAsksAndAccount (core : CoreView) (script : List ℕ)
    (with_why : Bool) (wanted : Wants) (marks : Marks) (text : List ℕ) : Type 0 where
  pub asks : List ℕ
  pub account : List ℕ
  pub idle : List ℕ
  pub are_printed : AreMarked with_why marks script core idle asks
  pub is_account : IsAccount core (idle_of core idle) wanted marks account
  pub both : text ≡ asks ++ account

-- What the command comes to. There is a core of this image and these settings, one of those that
-- may be shown. Its trace is written where that is wanted (`Traced`). What was printed are its own
-- answers to the script's asks, or what explains them, and then what is printed of it; the exit
-- status is that of its harts.
pub record StepComesTo (settings : Settings) (image : ProgramImage) (script : List ℕ)
    (with_why : Bool) (wanted : Wants) (marks : Marks) (Traced : CoreView → Type 0) (old new : Option (List ℕ))
    (exit_status : ℕ) : Type 0 where
  pub accepted : AreAccepted settings
  pub is_asking : IsAsking script
  pub core : CoreView
  pub setup : core.setup ≡ setup_of image settings.config
  pub limit : core.limit ≡ settings.limit
  pub shown : Shown core
  pub traced : Traced core
  pub printed : Prints old new (AreAsksAndAccount core script with_why wanted marks)
  pub harts : exit_status ≡ status_number (statuses_of core)
