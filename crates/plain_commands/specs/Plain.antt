-- The command `plain`: an order of harts, run on the plain machine. (This project's own choice.)
use Rattle.std.specs.Prelude.{◌≡◌, ℕ, Bool, true, false, List, [], ◌++◌, Option, Some, None, length, map, reverse}
use Rattle.std.specs.Io.KnownBytes.{Appends}
use Rattle.elf_image.specs.Image.{ProgramImage}
use Rattle.events.specs.declared.effect.Record.{Record}
use Rattle.smt_model.specs.{declared.config.Status.Status, Basics.below, Plain.Run, Plain.run}
use Rattle.sc_machine.specs.{Steps.are_harts}
use Rattle.plain_run.specs.Orders.{IsStoppedAt, OfEachSetup}
use Rattle.core_state.specs.Setup.{setup_of}
use Rattle.smt_model.specs.Setup.{Setup}
use Rattle.stories.specs.Story.{steps}
use Rattle.story_text.specs.Text.{Plan, story_text}
use Rattle.story_text.specs.declared.order.Untold.{Untold}
use Rattle.story_text.specs.declared.order.Untold.TheVariants as untold
use Rattle.scripts.specs.Order.{IsOrder, IsFirstNoHart}
use Rattle.sim_inputs.specs.{declared.settings.Settings.Settings}
use Rattle.address_labels.specs.Labels.{Marks}
use Rattle.report_lines.specs.Lines.{records_text, plain_report_text, status_number}
use Rattle.story_pictures.specs.Form.{Plan as DrawnPlan}
use Rattle.plain_run.specs.Left.{Left}
use Rattle.plain_commands.specs.DrawnOrders.{HasLongStory, IsPictureOf}
use Rattle.command_parts.specs.{declared.refused.Refused.Refused}
use Rattle.command_parts.specs.declared.refused.Refused.TheVariants.{Config, LongStory, Order, Step, Memory, Output}

-- The text is an order of harts; and this holds of them.
abbrev pub IsOrdering : List ℕ → Type 0
IsOrdering order = (harts : List ℕ) × IsOrder order harts

abbrev pub OfOrder : List ℕ → (List ℕ → Type 0) → Type 0
OfOrder order P = (harts : List ℕ) × IsOrder order harts × P harts

-- When each refusal comes: all words of the order are looked at first, then the number of harts,
-- then each step, then how many rows are drawn, where they are. The output is refused only behind them. Of memory
-- nothing is said.
abbrev pub IsPlainRefusal : Settings → ProgramImage → List ℕ → Bool → Refused → Type 0
IsPlainRefusal settings image order is_drawn Config =
    IsOrdering order × (are_harts settings.config.harts ≡ false)
IsPlainRefusal settings image order is_drawn (Order index) = IsFirstNoHart order index
IsPlainRefusal settings image order is_drawn (Step index why) =
    OfOrder order (λ harts. IsStoppedAt image settings.config.harts harts index why)
IsPlainRefusal settings image order is_drawn LongStory =
    (is_drawn ≡ true) × OfOrder order (λ harts. HasLongStory image settings.config.harts harts)
IsPlainRefusal settings image order is_drawn Memory = Unit {0}
IsPlainRefusal settings image order is_drawn Output = IsOrdering order
IsPlainRefusal settings image order is_drawn _ = ⊥

-- The parts of it: what the reading of an order answers, and its run on an image.
abbrev pub IsOrderRefusal : List ℕ → Refused → Type 0
IsOrderRefusal order (Order index) = IsFirstNoHart order index
IsOrderRefusal order Memory = Unit {0}
IsOrderRefusal order _ = ⊥

abbrev pub IsMachineRefusal : ProgramImage → ℕ → List ℕ → Refused → Type 0
IsMachineRefusal image harts order Config = are_harts harts ≡ false
IsMachineRefusal image harts order (Step index why) = IsStoppedAt image harts order index why
IsMachineRefusal image harts order Memory = Unit {0}
IsMachineRefusal image harts order _ = ⊥

-- So it is where the order's story is told too: that may fail to be written.
abbrev pub IsStoryRefusal : ProgramImage → ℕ → List ℕ → Refused → Type 0
IsStoryRefusal image harts order Config = are_harts harts ≡ false
IsStoryRefusal image harts order (Step index why) = IsStoppedAt image harts order index why
IsStoryRefusal image harts order Memory = Unit {0}
IsStoryRefusal image harts order Output = Unit {0}
IsStoryRefusal image harts order _ = ⊥

-- What the steps of a run have retired, the oldest first; and how so many harts stand behind it.
abbrev pub retired_by : Run → List Record
retired_by ran = reverse ran.records

abbrev pub standing : ℕ → Run → List Status
standing harts ran = map ran.state.statuses (below harts)

-- The refusal where a story isn't told to its end.
abbrev pub refused_for : Untold → Refused
refused_for (untold.Step at) = Step at.index at.why
refused_for untold.Output = Output

-- The story of an order, newest first, where one is told.
abbrev pub told_text : Option Plan → Setup → List ℕ → List ℕ
told_text None setup order = []
told_text (Some plan) setup order = story_text plan (steps setup order)

-- What is printed of a run of so many harts: its records, where they are wanted, with these marks beside them, and its
-- report.
abbrev pub plain_text : Bool → Marks → ℕ → Run → List ℕ
plain_text with_records marks harts ran =
    records_text with_records marks (retired_by ran)
    ++ plain_report_text (length (retired_by ran)) (standing harts ran) ran.state.output

-- The same of what a run has left.
abbrev pub ran_text : Bool → Marks → Left → List ℕ
ran_text with_records marks left =
    records_text with_records marks left.records
    ++ plain_report_text (length left.records) left.statuses left.machine.output

-- The story of an order was printed, where one is told, and behind it the report of a run that has left this.
pub record HasReported (image : ProgramImage) (harts : ℕ) (order : List ℕ) (told : Option Plan) (with_records : Bool)
    (marks : Marks) (left : Left) (old new : Option (List ℕ)) (exit_status : ℕ) : Type 0 where
  pub printed : OfEachSetup image harts (λ setup. Appends old new (told_text told setup (reverse order)
      ++ ran_text with_records marks left))
  pub stands : exit_status ≡ status_number left.statuses

-- What is written into the file of a picture: that of the order's story; or nothing, where none is wanted.
abbrev pub IsPictureIf : Option DrawnPlan → Setup → List ℕ → Option (List ℕ) → Type 0
IsPictureIf None setup order None = Unit {0}
IsPictureIf (Some plan) setup order (Some text) = IsPictureOf plan setup order text
IsPictureIf drawn setup order text = ⊥

-- What the command comes to. There is a run of the definitions' machine: of this image and these
-- settings' harts, in the order that the text says. What was printed is what is printed of it; the
-- exit status is that of its harts; and where a picture is wanted, it is in its file. `Put` says what was written.
pub record PlainComesTo (settings : Settings) (image : ProgramImage) (order : List ℕ)
    (told : Option Plan) (drawn : Option DrawnPlan) (with_records : Bool) (marks : Marks)
    (Put : Option (List ℕ) → Type 0) (old new : Option (List ℕ)) (exit_status : ℕ) : Type 0 where
  pub harts : List ℕ
  pub is_order : IsOrder order harts
  pub ran : Run
  pub runs : run (setup_of image settings.config) (reverse harts) ≡ Some ran
  pub printed : Appends old new (told_text told (setup_of image settings.config) (reverse harts)
      ++ plain_text with_records marks settings.config.harts ran)
  pub stands : exit_status ≡ status_number (standing settings.config.harts ran)
  pub text : Option (List ℕ)
  pub is_text : IsPictureIf drawn (setup_of image settings.config) harts text
  pub put : Put text
