-- The command `step`: its refusals from those of its parts, and what it comes to.
use Rattle.std.specs.Prelude.{◌≡◌, ◌⊎◌, ℕ, Bool, true, false, List, [], ◌++◌, Option, Some, Result, Ok, Err, IfOk}
use Rattle.std.proofs.Common.{refl, sym, subst}
use mathlib.Core.Logic.{inl, inr}
use Rattle.std.specs.Io.KnownBytes.{Appends}
use Rattle.elf_image.specs.Image.{ProgramImage}
use Rattle.core_state.specs.{Setup.setup_of, View.CoreView}
use Rattle.smt_core.specs.Shown.{Shown}
use Rattle.text_fields.specs.{Printing.Prints}
use Rattle.scripts.specs.{Session.AreCounted}
use Rattle.sim_inputs.specs.declared.settings.Settings.{Settings}
use Rattle.text_fields.proofs.Appending.{appends_more}
use Rattle.command_parts.specs.declared.refused.Refused.{Refused}
use Rattle.command_parts.specs.declared.refused.Refused.TheVariants.{Image, Memory}
use Rattle.command_parts.specs.declared.refused.Refused.TheVariants.{Output}
use Rattle.command_parts.specs.Refused.{AreAccepted}
use Rattle.address_labels.specs.Labels.{Marks, no_marks}
use Rattle.smt_core.specs.declared.finished.Finished.{Finished}
use Rattle.core_commands.specs.{Account.IsReported, Account.idle_of, Wanted.Wants}
use Rattle.core_commands.specs.Step.{IsStepRefusal, IsAsking, StepComesTo, ArePrinted, AreMarked, IsMarked}

-- Behind inputs that are accepted, the report is refused for memory or by the output.
pub report_refusal : (settings : Settings) (script : List ℕ) (reason : Refused) → AreAccepted settings
    → IsAsking script → (reason ≡ Memory) ⊎ (reason ≡ Output) → IsStepRefusal settings script reason
report_refusal settings script reason accepted asks (inl same) =
    subst (IsStepRefusal settings script) (sym same) tt
report_refusal settings script reason accepted asks (inr same) =
    subst (IsStepRefusal settings script) (sym same) (accepted, asks)

-- An image is none of what is refused behind it.
pub never_image : (settings : Settings) (script : List ℕ) (number : ℕ)
    → IsStepRefusal settings script (Image number) → ⊥
never_image settings script number is = is

-- The asks were printed, and then the account.
pub comes_to : (settings : Settings) (image : ProgramImage) (script : List ℕ)
    (with_why : Bool) (wanted : Wants) (marks : Marks) (core : CoreView) (idle : List ℕ) (Traced : CoreView → Type 0)
    (old mid new : Option (List ℕ)) (exit_status : ℕ)
    → AreAccepted settings → IsAsking script
    → core.setup ≡ setup_of image settings.config → core.limit ≡ settings.limit → Shown core
    → Prints old mid (AreMarked with_why marks script core idle)
    → Traced core → IsReported core (idle_of core idle) wanted marks mid new exit_status
    → StepComesTo settings image script with_why wanted marks Traced old new exit_status
comes_to settings image script with_why wanted marks core idle Traced old mid new exit_status
    accepted asking setup limit shown asks traced reported = record {
      accepted = accepted;
      is_asking = asking;
      core = core;
      setup = setup;
      limit = limit;
      shown = shown;
      traced = traced;
      printed = (
        asks.0 ++ reported.printed.0,
        record {
          asks = asks.0;
          account = reported.printed.0;
          idle = idle;
          are_printed = asks.1;
          is_account = reported.printed.1;
          both = refl;
        },
        appends_more old mid new _ _ asks.2 reported.printed.2,
      );
      harts = reported.harts;
    }

-- Where the account isn't printed, the asks are.
pub unreported : (with_why : Bool) (marks : Marks) (script : List ℕ) (core : CoreView) (idle : List ℕ)
    (old mid new : Option (List ℕ)) → Prints old mid (AreMarked with_why marks script core idle)
    → new ≡ mid → (asked : CoreView) × (count : List ℕ) × Prints old new (AreMarked with_why marks script asked count)
unreported with_why marks script core idle old mid new asks same =
    (core, idle, (asks.0, asks.1, subst (λ w. Appends old w asks.0) (sym same) asks.2))

-- As they were asked, where nothing is wanted beside them.
pub as_asked : (script : List ℕ) (why : Bool) (marks : Marks) (core : CoreView) (idle : List ℕ)
    (old new : Option (List ℕ)) → why ≡ false → marks ≡ no_marks
    → Prints old new (AreCounted script core idle) → Prints old new (AreMarked why marks script core idle)
as_asked script why marks core idle old new plain none asks =
    subst (λ (m : Marks). Prints old new (AreMarked why m script core idle)) (sym none)
    (subst (λ (b : Bool). Prints old new (AreMarked b no_marks script core idle)) (sym plain)
    (asks.0, (asks.0, asks.1, refl), asks.2))

pub answers_asked : (answer : Result Finished Refused) (script : List ℕ) (why : Bool) (marks : Marks)
    (old new : Option (List ℕ)) → why ≡ false → marks ≡ no_marks
    → IfOk answer (λ finished. Prints old new (AreCounted script finished.core finished.idle))
    → IfOk answer (λ finished. Prints old new (AreMarked why marks script finished.core finished.idle))
answers_asked (Ok finished) script why marks old new plain none asks =
    as_asked script why marks finished.core finished.idle old new plain none asks
answers_asked (Err reason) script why marks old new plain none asks = tt

-- With what is wanted beside them, of a text that they are, or that explains them.
pub as_marked : (script : List ℕ) (why : Bool) (marks : Marks) (core : CoreView) (idle text : List ℕ)
    (old new : Option (List ℕ)) → ArePrinted why script core idle text → Prints old new (IsMarked marks text)
    → Prints old new (AreMarked why marks script core idle)
as_marked script why marks core idle text old new printed marked =
    (marked.0, (text, printed, marked.1), marked.2)

-- What explains a text of asks, or that text.
pub told_text : (why : Bool) (script : List ℕ) (core : CoreView) (idle lines text : List ℕ)
    → AreCounted script core idle lines → (why ≡ false → text ≡ lines) → ArePrinted why script core idle text
told_text false script core idle lines text counted same =
    subst (λ (t : List ℕ). AreCounted script core idle t) (sym (same refl)) counted
told_text true script core idle lines text counted same = (lines, counted)
