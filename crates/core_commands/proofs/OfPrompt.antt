-- The command `step` with a script that is typed: its refusals, and what it comes to.
use Rattle.std.specs.Prelude.{◌≡◌, ℕ, Bool, true, false, List, [], ◌++◌, Option}
use Rattle.std.proofs.Common.{refl}
use Rattle.elf_image.specs.Image.{ProgramImage}
use Rattle.core_state.specs.{Setup.setup_of, View.CoreView}
use Rattle.smt_model.specs.Setup.{is_accepted}
use Rattle.text_fields.specs.{Printing.Prints}
use Rattle.scripts.specs.{Script.pieces, Lines.words_in}
use Rattle.prompts.specs.{declared.prompting.Ended.Ended, Prompted.IsPrompted}
use Rattle.sim_inputs.specs.{declared.settings.Settings.Settings}
use Rattle.text_fields.proofs.Appending.{appends_more}
use Rattle.address_labels.specs.Labels.{Marks}
use Rattle.core_commands.specs.{Wanted.Wants}
use Rattle.core_commands.specs.{Account.IsReported, Account.idle_of}
use Rattle.command_parts.specs.{Refused.AreAccepted, Refused.AreRefused}
use Rattle.core_commands.specs.{Step.IsAsking, Prompt.PromptComesTo}

-- An empty text is a script, that of no words.
pub empty_asks : IsAsking []
unfolding pieces
empty_asks = ([], tt)

-- Whether sizes are those of a core doesn't hang on the image.
pub accepted_all : (settings : Settings) (image : ProgramImage)
    → is_accepted (setup_of image settings.config) settings.limit ≡ true → AreAccepted settings
accepted_all settings image is = λ other. is

pub refused_all : (settings : Settings) (image : ProgramImage)
    → is_accepted (setup_of image settings.config) settings.limit ≡ false → AreRefused settings
refused_all settings image is = λ other. is

module _ {P : Type 0} (predicts : P → ℕ → ℕ → ℕ → ℕ → P → Type 0) (before : P) (settings : Settings)
    (explains : Bool) (input : Option (List ℕ)) (wanted : Wants) (marks : Marks) (Traced : CoreView → Type 0) where
  -- The lines were answered, and then the account was printed.
  pub prompt_comes_to : (image : ProgramImage) (ended : Ended) (core : CoreView) (idle : List ℕ)
      (old mid new : Option (List ℕ))
      (status : ℕ) → AreAccepted settings
      → Prints old mid
      (IsPrompted predicts before (setup_of image settings.config) settings.limit explains input ended core idle)
      → Traced core → IsReported core (idle_of core idle) wanted marks mid new status
      → PromptComesTo predicts before settings image explains input wanted marks Traced old new status
  prompt_comes_to image ended core idle old mid new status accepted prompted traced reported = record {
    accepted = accepted;
    ended = ended;
    core = core;
    idle = idle;
    answers = prompted.0;
    prompted = prompted.1;
    as_step = λ script is. record {
      words = words_in prompted.1.kept;
      is_script = is;
      asked = prompted.1.asked.asked;
    };
    traced = traced;
    printed = (
      prompted.0 ++ reported.printed.0,
      record {
        account = reported.printed.0;
        is_account = reported.printed.1;
        both = refl;
      },
      appends_more old mid new _ _ prompted.2 reported.printed.2,
    );
    harts = reported.harts;
  }
