-- What a line is refused for and what it comes to, from the same of its files and of its command.
use Rattle.std.specs.Prelude.{◌≡◌, ◌⊎◌, ℕ, Bool, true, false, if◌then◌else◌, IsTrue, List, Option, Some, None, Result, Ok, Err, IfErr}
use Rattle.std.specs.Borrow.{Bor}
use Rattle.std.proofs.Common.{refl, sym, ap, ◌∙◌}
use Rattle.std.proofs.lemmas.Bool.{true≢false}
use mathlib.Core.Logic.{inl, inr}
use Rattle.std.specs.Io.KnownBytes.{Keeps}
use Rattle.elf_image.specs.{Loaded.IsImageOf}
use Rattle.elf_image.specs.Image.{ProgramImage}
use Rattle.commands.specs.{Written.ToWrite, Written.TextOf, Tested.TestedComesTo}
use Rattle.sim_inputs.specs.{declared.line.Command.Command, declared.settings.Settings.Settings}
use Rattle.sim_inputs.specs.Configuration.{AreInRange, IsConfiguration, with_harts}
use Rattle.report_lines.specs.Statuses.{says_harts}
use Rattle.command_parts.specs.declared.refused.Refused.{Refused}
use Rattle.command_parts.specs.declared.refused.Refused.TheVariants.{Image, Config, Harts, Script, Order, Step}
use Rattle.command_parts.specs.declared.refused.Refused.TheVariants.{Memory, File}
use Rattle.command_parts.specs.declared.refused.Refused.TheVariants.{Output, Thread, Trace, Version, Event, NoUnit}
use Rattle.command_parts.specs.declared.refused.Refused.TheVariants.{Limit, NoHart}
use Rattle.command_parts.specs.declared.refused.Refused.TheVariants.{Prediction, Register, Picture}
use Rattle.command_parts.specs.declared.refused.Refused.TheVariants.{Lines, NamesNothing, NamesSeveral, NeverFetched}
use Rattle.command_parts.specs.declared.refused.Refused.TheVariants.{Turned}
use Rattle.command_parts.specs.declared.refused.Refused.TheVariants.{Watch, Condition, ManyWatched, NoWord}
use Rattle.command_parts.specs.declared.refused.Refused.TheVariants.{NoOutcome, NotStuck, NoAnswer, Litmus}
use Rattle.command_parts.specs.declared.refused.Refused.TheVariants.{NothingToDraw, LongStory}
use Rattle.command_parts.specs.declared.refused.Unread.{Unread}
use Rattle.command_parts.specs.declared.refused.Unread.TheVariants as unread
use Rattle.command_parts.specs.Refused.{exit_status_of, refusal_of, AreAccepted, PassesAll}
use Rattle.symbols.specs.Tables.{Table}
use Rattle.source_lines.specs.Lines.{Origin}
use Rattle.command_parts.specs.Inputs.{Read, AreNamesFor, AreLinesFor, IsLinesFault}
use Rattle.commands.specs.Commands.{IsCommandRefusal, CommandComesTo, reads_lines, wants_names}
use Rattle.commands.specs.Perform.{IsProgramRefusal, ProgramComesTo, LineComesTo, LitmusLineComesTo}
use Rattle.commands.specs.Perform.{ExplainLineComesTo, HasTwoCores, MigrateLineComesTo}
use Rattle.sim_inputs.specs.declared.line.Command.TheVariants as commands
use Rattle.sim_inputs.specs.declared.line.ProgramCommand.{ProgramCommand}
use Rattle.sim_inputs.specs.declared.line.LitmusCommand.{LitmusCommand}
use Rattle.sim_inputs.specs.declared.line.Beside.{Beside}
use Rattle.commands.proofs.Sound.{zero_says}
use Rattle.commands.proofs.SoundCommands.{sound}

-- The settings of a configuration are a core's.
pub accepted_of : (text : List ℕ) (settings : Settings) → IsConfiguration text settings → AreAccepted settings
accepted_of text settings is = λ image. is.sets.in_range.accepted

-- So they are with other harts.
pub accepted_with : (settings : Settings) → AreInRange settings → AreAccepted settings
accepted_with settings in_range = λ image. in_range.accepted

-- ---- Refusals

-- A configuration and an image that make these settings and this program image.
module _ (harts : Option ℕ) (command : ProgramCommand) (text : List ℕ) (own : Settings) (file : List ℕ)
    (program : ProgramImage) (second lines : Read) (configured : IsConfiguration text own)
    (passes : PassesAll file own.ram) (loaded : IsImageOf file own.ram program) where
  -- What is refused of the lines of its sources.
  pub lines_refusal : (reason : Refused) → IsLinesFault (reads_lines command) lines program reason
      → IsProgramRefusal harts command (Ok text) (Ok file) second lines reason
  lines_refusal (Image number) is = absurd is
  lines_refusal Config is = absurd is
  lines_refusal Harts is = absurd is
  lines_refusal (Script number) is = absurd is
  lines_refusal (Order index) is = absurd is
  lines_refusal (Step index why) is = absurd is
  lines_refusal (Trace line rule) is = absurd is
  lines_refusal Version is = absurd is
  lines_refusal (Event index rule) is = absurd is
  lines_refusal (Prediction index) is = absurd is
  lines_refusal (Register index) is = absurd is
  lines_refusal (NoUnit kind) is = absurd is
  lines_refusal (Limit least) is = absurd is
  lines_refusal (NoHart hart) is = absurd is
  lines_refusal (Lines number fault) is = (own, configured, (passes, program, loaded, is))
  lines_refusal (NamesNothing option) is = absurd is
  lines_refusal (NamesSeveral option) is = absurd is
  lines_refusal (NeverFetched option) is = absurd is
  lines_refusal (Turned from to) is = absurd is
  lines_refusal (Picture last) is = absurd is
  lines_refusal (Watch why) is = absurd is
  lines_refusal (Condition why) is = absurd is
  lines_refusal ManyWatched is = absurd is
  lines_refusal (NoWord address) is = absurd is
  lines_refusal (NoOutcome number) is = absurd is
  lines_refusal NotStuck is = absurd is
  lines_refusal LongStory is = absurd is
  lines_refusal NoAnswer is = absurd is
  lines_refusal (Litmus place fault) is = absurd is
  lines_refusal NothingToDraw is = absurd is
  lines_refusal Memory is = tt
  lines_refusal Thread is = absurd is
  lines_refusal File is = inr (inr (inl (own, configured, (passes, program, loaded, is))))
  lines_refusal Output is = absurd is

-- A configuration and an image that make these settings and this program image, and the names and the lines of its
-- sources that are wanted; and the harts of the line.
module _ (harts : Option ℕ) (command : ProgramCommand) (text : List ℕ) (own : Settings) (file : List ℕ)
    (program : ProgramImage) (names : Table) (second lines : Read) (origins : Option (List Origin))
    (configured : IsConfiguration text own) (in_range : AreInRange (with_harts harts own))
    (passes : PassesAll file own.ram) (loaded : IsImageOf file own.ram program)
    (named : AreNamesFor (wants_names command) file names)
    (wanted : AreLinesFor (reads_lines command) lines program origins) where
  pub command_refusal : (reason : Refused) → IsCommandRefusal command (with_harts harts own) program names second reason
      → IsProgramRefusal harts command (Ok text) (Ok file) second lines reason
  command_refusal (Image number) is = absurd ((sound command
      (with_harts harts own) program names origins second).no_image number is)
  command_refusal Config is =
      let unfit = (sound command (with_harts harts own) program names origins second).unfit (accepted_with
      (with_harts harts own) in_range) is in
      inr (own, configured, (passes, program, loaded, unfit))
  command_refusal Harts is = absurd ((sound command (with_harts harts own) program names origins second).no_harts is)
  command_refusal (Script number) is = (own, configured, (passes, program, loaded, (names, named, is)))
  command_refusal (Order index) is = (own, configured, (passes, program, loaded, (names, named, is)))
  command_refusal (Step index why) is = (own, configured, (passes, program, loaded, (names, named, is)))
  command_refusal (Trace line rule) is = (own, configured, (passes, program, loaded, (names, named, is)))
  command_refusal Version is = (own, configured, (passes, program, loaded, (names, named, is)))
  command_refusal (Event index rule) is = (own, configured, (passes, program, loaded, (names, named, is)))
  command_refusal (Prediction index) is = (own, configured, (passes, program, loaded, (names, named, is)))
  command_refusal (Register index) is = (own, configured, (passes, program, loaded, (names, named, is)))
  command_refusal (NoUnit kind) is = (own, configured, (passes, program, loaded, (names, named, is)))
  command_refusal (Limit least) is = (own, configured, (passes, program, loaded, (names, named, is)))
  command_refusal (NoHart hart) is = (own, configured, (passes, program, loaded, (names, named, is)))
  command_refusal (Lines number fault) is =
      absurd ((sound command (with_harts harts own) program names origins second).no_lines number fault is)
  command_refusal (NamesNothing option) is = (own, configured, (passes, program, loaded, (names, named, is)))
  command_refusal (NamesSeveral option) is = (own, configured, (passes, program, loaded, (names, named, is)))
  command_refusal (NeverFetched option) is = (own, configured, (passes, program, loaded, (names, named, is)))
  command_refusal (Turned from to) is = (own, configured, (passes, program, loaded, (names, named, is)))
  command_refusal (Picture last) is = (own, configured, (passes, program, loaded, (names, named, is)))
  command_refusal (Watch why) is = (own, configured, (passes, program, loaded, (names, named, is)))
  command_refusal (Condition why) is = (own, configured, (passes, program, loaded, (names, named, is)))
  command_refusal ManyWatched is = (own, configured, (passes, program, loaded, (names, named, is)))
  command_refusal (NoWord address) is = (own, configured, (passes, program, loaded, (names, named, is)))
  command_refusal (NoOutcome number) is = (own, configured, (passes, program, loaded, (names, named, is)))
  command_refusal NotStuck is = (own, configured, (passes, program, loaded, (names, named, is)))
  command_refusal LongStory is = (own, configured, (passes, program, loaded, (names, named, is)))
  command_refusal NoAnswer is = (own, configured, (passes, program, loaded, (names, named, is)))
  command_refusal (Litmus place fault) is = (own, configured, (passes, program, loaded, (names, named, is)))
  command_refusal NothingToDraw is = (own, configured, (passes, program, loaded, (names, named, is)))
  command_refusal Memory is = tt
  command_refusal Thread is = (own, configured, (passes, program, loaded, (names, named, is)))
  command_refusal File is = inr (inr (inr (own, configured, (passes, program, loaded, (names, named, is)))))
  command_refusal Output is = (own, configured, (passes, program, loaded, (names, named, is)))

  -- Behind what the command comes to, only the output may still be refused; and once that is flushed, the
  -- line has come to it.
  module _ (Traced : ToWrite → Type 0) (old mid : Option (List ℕ)) (status : ℕ)
      (ended : CommandComesTo command (with_harts harts own) program names origins second Traced old mid status) where
    pub output_refusal : IsProgramRefusal harts command (Ok text) (Ok file) second lines Output
    output_refusal = command_refusal Output
        ((sound command (with_harts harts own) program names origins second).output Traced old mid status ended)

    pub comes_to : (new : Option (List ℕ)) → Keeps mid new → (HasTwoCores harts command second → ⊥)
        → ProgramComesTo harts command (Ok text) (Ok file) second lines Traced old new status
    comes_to new flushed one = (
      own,
      configured,
      (
        passes,
        program,
        loaded,
        (
          names,
          named,
          (
            accepted_with (with_harts harts own) in_range,
            one,
            (
              origins,
              wanted,
              (sound command (with_harts harts own) program names origins second).flushed Traced old mid new status
                  flushed
                  ended,
            ),
          ),
        ),
      ),
    )

-- ---- The exit status

program_says : (harts : Option ℕ) (command : ProgramCommand) (config image second lines : Read) (Traced : ToWrite
    → Type 0)
    (old new : Option (List ℕ)) (status : ℕ)
    → ProgramComesTo harts command config image second lines Traced old new status
    → IsTrue (says_harts status)
program_says harts command (Ok text) (Ok file) second lines Traced old new status is =
    let comes = is.2.3.2.2 in
    (sound command (with_harts harts is.0) is.2.1 is.2.3.0 comes.0 second).says Traced old new status comes.2
program_says harts command (Ok text) (Err why) second lines Traced old new status is = absurd is.2
program_says harts command (Err why) image second lines Traced old new status is = absurd is

-- So does that of runs: it is 0, or 3.
runs_say : (b : Bool) (status : ℕ) → status ≡ (if b then 3 else 0) → IsTrue (says_harts status)
runs_say true status is = ap says_harts is
runs_say false status is = zero_says status is

tested_says : (run : Option ℕ) (text : List ℕ) (settings : Settings) (litmus : LitmusCommand) (Put : List ℕ → Type 0)
    (old new : Option (List ℕ)) (status : ℕ) → TestedComesTo run text settings litmus Put old new status
    → IsTrue (says_harts status)
tested_says None text settings litmus Put old new status is = elim is.comes [
  | inl all ↦ zero_says status all.zero
  | inr more ↦ ap says_harts more.three
]
tested_says (Some times) text settings litmus Put old new status is = elim is.comes [
  | inl all ↦ runs_say _ status all.counted.stands
  | inr more ↦ ap says_harts more.three
]

litmus_says : (litmus : LitmusCommand) (config test : Read) (Put : List ℕ → Type 0) (old new : Option (List ℕ))
    (status : ℕ) → LitmusLineComesTo litmus config test Put old new status → IsTrue (says_harts status)
litmus_says litmus (Ok text) (Ok file) Put old new status is =
    tested_says litmus.run file is.0 litmus Put old new status is.2
litmus_says litmus (Ok text) (Err why) Put old new status is = absurd is.2
litmus_says litmus (Err why) test Put old new status is = absurd is

migration_says : (config trace : Read) (Traced : ToWrite → Type 0) (old new : Option (List ℕ)) (status : ℕ)
    → MigrateLineComesTo config trace Traced old new status → IsTrue (says_harts status)
migration_says (Ok text) (Ok file) Traced old new status is = zero_says status is.1.2.zero
migration_says (Ok text) (Err why) Traced old new status is = absurd is.1.2
migration_says (Err why) trace Traced old new status is = absurd is.1

explain_says : (harts : Option ℕ) (beside : Option Beside) (config image second : Read) (old new : Option (List ℕ))
    (status : ℕ)
    → ExplainLineComesTo harts beside config image second old new status → IsTrue (says_harts status)
explain_says harts beside (Ok text) (Ok file) second old new status is = zero_says status is.2.3.1.1.zero
explain_says harts beside (Ok text) (Err why) second old new status is = absurd is.2
explain_says harts beside (Err why) image second old new status is = absurd is

pub status_says : (harts : Option ℕ) (command : Command) (config image second lines : Read) (Traced : ToWrite → Type 0)
    (old new : Option (List ℕ)) (status : ℕ) → LineComesTo harts command config image second lines Traced old new status
    → IsTrue (says_harts status)
status_says harts (commands.OfProgram command) config image second lines Traced old new status is =
    program_says harts command config image second lines Traced old new status is
status_says harts (commands.Explain explain) config image second lines Traced old new status is =
    explain_says harts explain.beside config image second old new status is
status_says harts (commands.Litmus litmus) config test second lines Traced old new status is =
    litmus_says litmus config test (λ text. Traced (TextOf text)) old new status is
status_says harts (commands.Migrate migrate) config none trace lines Traced old new status is =
    migration_says config trace Traced old new status is

-- A refusal's exit status is 2, 4 or 5, and so never one that says how harts stand; it is 5 for a
-- file that is unread.
pub known_refusal : (reason : Refused) (status : ℕ) → status ≡ exit_status_of reason
    → IsTrue (says_harts status) ⊎ (status ≡ 2) ⊎ (status ≡ 4) ⊎ (status ≡ 5)
known_refusal (Image number) status is = inr (inl is)
known_refusal Config status is = inr (inl is)
known_refusal Harts status is = inr (inl is)
known_refusal (Script number) status is = inr (inl is)
known_refusal (Order index) status is = inr (inl is)
known_refusal (Step index why) status is = inr (inl is)
known_refusal (Trace line rule) status is = inr (inr (inl is))
known_refusal Version status is = inr (inr (inl is))
known_refusal (Event index rule) status is = inr (inr (inl is))
known_refusal (Prediction index) status is = inr (inr (inl is))
known_refusal (Register index) status is = inr (inr (inl is))
known_refusal (NoUnit kind) status is = inr (inl is)
known_refusal (Limit least) status is = inr (inl is)
known_refusal (NoHart hart) status is = inr (inl is)
known_refusal (Lines number fault) status is = inr (inl is)
known_refusal (NamesNothing option) status is = inr (inl is)
known_refusal (NamesSeveral option) status is = inr (inl is)
known_refusal (NeverFetched option) status is = inr (inl is)
known_refusal (Turned from to) status is = inr (inl is)
known_refusal (Picture last) status is = inr (inl is)
known_refusal (Watch why) status is = inr (inl is)
known_refusal (Condition why) status is = inr (inl is)
known_refusal ManyWatched status is = inr (inl is)
known_refusal (NoWord address) status is = inr (inl is)
known_refusal (NoOutcome number) status is = inr (inl is)
known_refusal NotStuck status is = inr (inl is)
known_refusal LongStory status is = inr (inl is)
known_refusal NoAnswer status is = inr (inl is)
known_refusal (Litmus place fault) status is = inr (inl is)
known_refusal NothingToDraw status is = inr (inl is)
known_refusal Memory status is = inr (inr (inr is))
known_refusal Thread status is = inr (inr (inr is))
known_refusal File status is = inr (inr (inr is))
known_refusal Output status is = inr (inr (inr is))

never_says : (reason : Refused) → says_harts (exit_status_of reason) ≡ false
never_says (Image number) = refl
never_says Config = refl
never_says Harts = refl
never_says (Script number) = refl
never_says (Order index) = refl
never_says (Step index why) = refl
never_says (Trace line rule) = refl
never_says Version = refl
never_says (Event index rule) = refl
never_says (Prediction index) = refl
never_says (Register index) = refl
never_says (NoUnit kind) = refl
never_says (Limit least) = refl
never_says (NoHart hart) = refl
never_says (Lines number fault) = refl
never_says (NamesNothing option) = refl
never_says (NamesSeveral option) = refl
never_says (NeverFetched option) = refl
never_says (Turned from to) = refl
never_says (Picture last) = refl
never_says (Watch why) = refl
never_says (Condition why) = refl
never_says ManyWatched = refl
never_says (NoWord address) = refl
never_says (NoOutcome number) = refl
never_says NotStuck = refl
never_says LongStory = refl
never_says NoAnswer = refl
never_says (Litmus place fault) = refl
never_says NothingToDraw = refl
never_says Memory = refl
never_says Thread = refl
never_says File = refl
never_says Output = refl

pub refused_harts : (reason : Refused) (status : ℕ) → status ≡ exit_status_of reason → IsTrue (says_harts status) → ⊥
refused_harts reason status is harts =
    true≢false (sym harts ∙ (ap says_harts is ∙ never_says reason))

unread_status : (why : Unread) → exit_status_of (refusal_of why) ≡ 5
unread_status unread.File = refl
unread_status unread.Memory = refl

pub unset_refusal : (config : Result (Bor (List ℕ)) Unread) (A : Type 0) (reason : Refused) (status : ℕ)
    → status ≡ exit_status_of reason
    → IfErr config (λ why. ◌≡◌ {A = Result A Refused} (Err reason) (Err (refusal_of why)))
    → IfErr config (λ why. status ≡ 5)
unset_refusal (Ok text) A reason status is unset = tt
unset_refusal (Err why) A reason status is unset =
    let same : reason ≡ refusal_of why = cc in
    is ∙ (ap exit_status_of same ∙ unread_status why)

-- A line that has an exit status has a configuration that was read.
pub was_read : (config : Result (Bor (List ℕ)) Unread) (A : Type 0) (x : A) (P : Unread → Type 0)
    → IfErr config (λ why. ◌≡◌ {A = Result A Refused} (Ok x) (Err (refusal_of why))) → IfErr config P
was_read (Ok text) A x P unread = tt
was_read (Err why) A x P unread = absurd (cc)
