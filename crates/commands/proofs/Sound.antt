-- What `perform` needs of each command's definitions.
use Rattle.std.specs.Prelude.{◌≡◌, ℕ, Bool, IsTrue, List, Option, Some, None}
use Rattle.std.proofs.Common.{refl, ap, ◌∙◌}
use Rattle.std.proofs.lemmas.Bool.{cases_Bool}
use Rattle.std.specs.List.{list_any, list_all}
use Rattle.std.specs.Io.KnownBytes.{Appends, Keeps}
use mathlib.Core.Logic.{inl, inr}
use Rattle.elf_image.specs.Image.{ProgramImage}
use Rattle.symbols.specs.Tables.{Table}
use Rattle.source_lines.specs.{Lines.Origin, declared.line.LineFault.LineFault}
use Rattle.commands.specs.Written.{ToWrite}
use Rattle.smt_model.specs.{declared.config.Status.Status, Plain.is_going_status}
use Rattle.text_fields.specs.{Printing.Prints}
use Rattle.sim_inputs.specs.declared.line.ProgramCommand.{ProgramCommand}
use Rattle.sim_inputs.specs.{declared.settings.Settings.Settings}
use Rattle.report_lines.specs.Lines.{status_number, has_ended_well}
use Rattle.report_lines.specs.Statuses.{says_harts}
use Rattle.command_parts.specs.declared.refused.Refused.TheVariants.{Image, Config, Harts, Lines, Output}
use Rattle.command_parts.specs.declared.refused.Unread.{Unread}
use Rattle.command_parts.specs.declared.refused.Unread.TheVariants as unread
use Rattle.command_parts.specs.Refused.{AreAccepted, refusal_of}
use Rattle.command_parts.specs.Inputs.{Read}
use Rattle.commands.specs.Commands.{IsCommandRefusal, CommandComesTo, AreUnfit}

pub record IsSound (command : ProgramCommand) (settings : Settings) (program : ProgramImage) (names : Table)
    (lines : Option (List Origin)) (second : Read) : Type 1 where
  -- It never refuses the image, nor harts beside a trace, nor the lines of the image's sources, and of settings that
  -- are a
  -- core's it refuses those that are unfit.
  pub no_image : (number : ℕ) → IsCommandRefusal command settings program names second (Image number) → ⊥
  pub no_harts : IsCommandRefusal command settings program names second Harts → ⊥
  pub no_lines : (number : ℕ) (fault : LineFault)
      → IsCommandRefusal command settings program names second (Lines number fault) → ⊥
  pub unfit : AreAccepted settings → IsCommandRefusal command settings program names second Config
      → AreUnfit command settings program second
  -- Behind what it comes to, only the output may still be refused. A flush changes nothing of it, and its
  -- exit status says how harts stand.
  pub output : (Traced : ToWrite → Type 0) (old new : Option (List ℕ)) (status : ℕ)
      → CommandComesTo command settings program names lines second Traced old new status
      → IsCommandRefusal command settings program names second Output
  pub flushed : (Traced : ToWrite → Type 0) (old mid new : Option (List ℕ)) (status : ℕ) → Keeps mid new
      → CommandComesTo command settings program names lines second Traced old mid status
      → CommandComesTo command settings program names lines second Traced old new status
  pub says : (Traced : ToWrite → Type 0) (old new : Option (List ℕ)) (status : ℕ)
      → CommandComesTo command settings program names lines second Traced old new status → IsTrue (says_harts status)

-- ---- For all of them

pub no_unread_image : (number : ℕ) (why : Unread) → Image number ≡ refusal_of why → ⊥
no_unread_image number unread.File is = cc
no_unread_image number unread.Memory is = cc

pub no_unread_harts : (why : Unread) → Harts ≡ refusal_of why → ⊥
no_unread_harts unread.File is = cc
no_unread_harts unread.Memory is = cc

pub no_unread_lines : (number : ℕ) (fault : LineFault) (why : Unread) → Lines number fault ≡ refusal_of why → ⊥
no_unread_lines number fault unread.File is = cc
no_unread_lines number fault unread.Memory is = cc

pub no_unread_config : (why : Unread) → Config ≡ refusal_of why → ⊥
no_unread_config unread.File is = cc
no_unread_config unread.Memory is = cc

-- A flush changes nothing of what was written.
pub kept : (old mid new : Option (List ℕ)) (text : List ℕ) → Appends old mid text → Keeps mid new → Appends old new text
kept None mid new text written flushed = tt
kept (Some xs) None new text written flushed = absurd written
kept (Some xs) (Some ys) None text written flushed = absurd flushed
kept (Some xs) (Some ys) (Some zs) text written flushed = flushed ∙ written

pub prints_kept : (old mid new : Option (List ℕ)) (P : List ℕ → Type 0) → Prints old mid P → Keeps mid new
    → Prints old new P
prints_kept old mid new P printed flushed = (printed.0, printed.1, kept old mid new printed.0 printed.2 flushed)

-- The exit status of a report says how harts stand.
number_says : (statuses : List Status) → IsTrue (says_harts (status_number statuses))
number_says statuses = elim (cases_Bool (list_any is_going_status statuses)) [
  | inl going ↦ rw going refl
  | inr none ↦ elim (cases_Bool (list_all has_ended_well statuses)) [
    | inl well ↦ rw (none, well) refl
    | inr badly ↦ rw (none, badly) refl
  ]
]

pub status_says : (status : ℕ) (statuses : List Status) → status ≡ status_number statuses → IsTrue (says_harts status)
status_says status statuses is = ap says_harts is ∙ number_says statuses

pub zero_says : (status : ℕ) → status ≡ 0 → IsTrue (says_harts status)
zero_says status is = ap says_harts is ∙ refl
