-- The command `step` with a script that is typed. (This project's own choice.)
use Rattle.std.specs.Prelude.{◌≡◌, ℕ, Bool, List, ◌++◌, Option}
use Rattle.elf_image.specs.Image.{ProgramImage}
use Rattle.core_state.specs.{Setup.setup_of, View.CoreView}
use Rattle.text_fields.specs.{Printing.Prints}
use Rattle.scripts.specs.{Script.IsScript, Session.AreCounted, Lines.words_in}
use Rattle.prompts.specs.{declared.prompting.Ended.Ended, Prompted.IsPrompted}
use Rattle.sim_inputs.specs.declared.settings.Settings.{Settings}
use Rattle.report_lines.specs.Lines.{status_number}
use Rattle.address_labels.specs.Labels.{Marks}
use Rattle.core_commands.specs.Wanted.{Wants}
use Rattle.command_parts.specs.{Refused.AreAccepted}
use Rattle.core_commands.specs.Account.{IsAccount, idle_of, statuses_of}

-- What the prompt has printed of the lines, and then what is printed of a core.
pub record AreAnswersAndAccount (answers : List ℕ) (core : CoreView) (idle : List ℕ) (wanted : Wants) (marks : Marks)
    (text : List ℕ) : Type 0 where
  pub account : List ℕ
  pub is_account : IsAccount core (idle_of core idle) wanted marks account
  pub both : text ≡ answers ++ account

-- What the command comes to. The lines of an input were read and answered up to their end, and there is
-- the core that was asked the words of those that were kept. Of a script of these words it is the core
-- that `step` comes to, and as many asks of each actor were answered idle. Its trace is written where that is wanted
-- (`Traced`). What was printed is all that the prompt prints, the answer of each line behind its sign, and then what is
-- printed of the core; the exit status is that of its harts.
pub record PromptComesTo {P : Type 0} (predicts : P → ℕ → ℕ → ℕ → ℕ → P → Type 0) (before : P)
    (settings : Settings) (image : ProgramImage) (explains : Bool) (input : Option (List ℕ)) (wanted : Wants)
    (marks : Marks) (Traced : CoreView → Type 0) (old new : Option (List ℕ)) (exit_status : ℕ) : Type 0 where
  pub accepted : AreAccepted settings
  pub ended : Ended
  pub core : CoreView
  pub idle : List ℕ
  pub answers : List ℕ
  pub prompted : IsPrompted predicts before (setup_of image settings.config) settings.limit explains input ended core
      idle answers
  pub as_step : (script : List ℕ) → IsScript script (words_in prompted.kept)
      → AreCounted script core idle prompted.lines
  pub traced : Traced core
  pub printed : Prints old new (AreAnswersAndAccount answers core idle wanted marks)
  pub harts : exit_status ≡ status_number (statuses_of core)
