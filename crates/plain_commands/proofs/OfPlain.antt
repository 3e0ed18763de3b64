-- The command `plain`: its refusals from those of the order and of the machine, and what it comes to.
use Rattle.std.specs.Prelude.{◌≡◌, ℕ, Bool, List, ◌++◌, Option, Some, None, length, option_map}
use Rattle.std.proofs.Common.{◌<◌, ◌≢◌, [], get_or, reverse, sym, subst, refl}
use Rattle.text_fields.proofs.Appending.{appends_more}
use Rattle.std.specs.Io.KnownBytes.{Appends}
use Rattle.elf_image.specs.Image.{ProgramImage}
use Rattle.core_state.specs.Setup.{setup_of}
use Rattle.plain_run.specs.{Left.Left, Orders.HasLeft, Orders.OfEachSetup}
use Rattle.scripts.specs.Order.{IsOrder}
use Rattle.sim_inputs.specs.declared.settings.Settings.{Settings}
use Rattle.address_labels.specs.Labels.{Marks}
use Rattle.report_lines.specs.Lines.{status_number}
use Rattle.command_parts.specs.declared.refused.Refused.{Refused}
use Rattle.command_parts.specs.declared.refused.Refused.TheVariants as reasons
use Rattle.smt_model.specs.{Setup.Setup}
use Rattle.plain_run.specs.Orders.{IsStoppedAt}
use Rattle.plain_run.proofs.Refusing.{has_room, never_full, no_run}
use Rattle.sc_machine.specs.{Machine.Machine, Refusals.refusal, Steps.IsNew}
use Rattle.sc_machine.specs.declared.refused.StoppedAt.{StoppedAt}
use Rattle.story_text.specs.{Order.IsUntold, Text.Plan, Text.plan_of, Text.story_text}
use Rattle.story_text.specs.declared.{form.StoryForm.StoryForm, order.Untold.Untold}
use Rattle.story_text.specs.declared.order.Untold.TheVariants as untold
use Rattle.stories.specs.Story.{steps}
use Rattle.story_pictures.specs.Form.{Plan as DrawnPlan}
use Rattle.plain_commands.specs.DrawnOrders.{HasPutPicture, IsPuttingRefusal}
use Rattle.plain_commands.specs.{Outcomes.HasPutText}
use Rattle.plain_commands.specs.Plain.{IsMachineRefusal, IsOrderRefusal, IsPictureIf, IsPlainRefusal, IsStoryRefusal}
use Rattle.plain_commands.specs.Plain.{HasReported, PlainComesTo}
use Rattle.plain_commands.specs.Plain.{plain_text, ran_text, refused_for, told_text}

-- What is refused of the words of an order.
pub words_refused : (settings : Settings) (image : ProgramImage) (order : List ℕ) (is_drawn : Bool) (why : Refused)
    → IsOrderRefusal order why → IsPlainRefusal settings image order is_drawn why
words_refused settings image order is_drawn (reasons.Order index) is = is
words_refused settings image order is_drawn reasons.Memory is = tt
words_refused settings image order is_drawn _ is = absurd is

-- What is refused behind the reading of the order: of the machine, of the picture, and of what is printed.
module _ (settings : Settings) (image : ProgramImage) (order harts : List ℕ) (is_drawn : Bool) (read : IsOrder order harts)
  where
    pub run_refused : (why : Refused) → IsMachineRefusal image settings.config.harts harts why
        → IsPlainRefusal settings image order is_drawn why
    run_refused reasons.Config is = ((harts, read), is)
    run_refused (reasons.Step index why) is = (harts, read, is)
    run_refused reasons.Memory is = tt
    run_refused _ is = absurd is

    pub put_refused : (why : Refused) → IsPuttingRefusal image settings.config.harts harts is_drawn why
        → IsPlainRefusal settings image order is_drawn why
    put_refused reasons.Config is = ((harts, read), is)
    put_refused (reasons.Step index why) is = (harts, read, is)
    put_refused reasons.LongStory is = (is.0, (harts, read, is.1))
    put_refused reasons.Memory is = tt
    put_refused reasons.Output is = (harts, read)
    put_refused _ is = absurd is

    pub told_refused : (why : Refused) → IsStoryRefusal image settings.config.harts harts why
        → IsPlainRefusal settings image order is_drawn why
    told_refused reasons.Config is = ((harts, read), is)
    told_refused (reasons.Step index why) is = (harts, read, is)
    told_refused reasons.Memory is = tt
    told_refused reasons.Output is = (harts, read)
    told_refused _ is = absurd is

-- What was put of a picture that is wanted is its text; else nothing.
module _ {S : Type 0} (written : S → Option (List ℕ)) (has_failed : S → Bool) (old new : S) (settings : Settings)
    (image : ProgramImage) (harts : List ℕ) where
  pub picture_put : (drawn : Option DrawnPlan)
      → HasPutPicture written has_failed old new image settings.config.harts drawn harts
      → (text : Option (List ℕ)) × IsPictureIf drawn (setup_of image settings.config) harts text
      × HasPutText written has_failed old new text
  picture_put None is = (None, tt, is)
  picture_put (Some plan) is = (Some is.text, is.is (setup_of image settings.config) refl refl, is.put)

-- What is printed of a run is what is printed of the definitions' run that it is.
pub comes_to : (settings : Settings) (image : ProgramImage) (order : List ℕ) (told : Option Plan)
    (drawn : Option DrawnPlan) (with_records : Bool) (marks : Marks) (Put : Option (List ℕ) → Type 0)
    (harts listed : List ℕ) (left : Left) (old new text : Option (List ℕ)) → IsOrder order harts
    → listed ≡ harts → OfEachSetup image settings.config.harts (λ setup. HasLeft setup listed left)
    → IsPictureIf drawn (setup_of image settings.config) listed text → Put text → (status : ℕ)
    → HasReported image settings.config.harts listed told with_records marks left old new status
    → PlainComesTo settings image order told drawn with_records marks Put old new status
comes_to settings image order told drawn with_records marks Put harts listed left old new text read same
    left_each pictured put status reported =
    let setup = setup_of image settings.config in
    let has = left_each setup refl refl in
    let printed : Appends old new (told_text told setup (reverse listed)
    ++ plain_text with_records marks settings.config.harts has.ran) =
    rw (has.records, has.statuses, has.output) at reported.printed setup refl refl in
    let stands = reported.stands in
    record {
      harts = harts;
      is_order = read;
      ran = has.ran;
      runs = rw same at has.runs;
      printed = rw same at printed;
      stands = rw has.statuses at stands;
      text = text;
      is_text = rw same at pictured;
      put = put;
    }

-- A step of the order that isn't told, since the machine refuses it, is one at which a run of the order stops.
pub stopped_at : (image : ProgramImage) (harts : ℕ) (order : List ℕ) (first : Machine) (at : StoppedAt)
    → IsNew image harts (length order) first → IsUntold order first (untold.Step at)
    → IsStoppedAt image harts order at.index at.why
stopped_at image harts order first at new refused =
    let some : Setup = record { image = image; harts = harts; extra = 0; queue = 0; roles = [] } in
    let one = refused.1 some (new.agrees some refl refl) in
    let not_full = never_full some first.room one.before (get_or order at.index 0) at.why
    (subst (λ n. length one.before.state.output < n) (sym new.room_is)
    (has_room some order at.index one.before refused.0 one.runs)) one.refused in
    record {
      inside = refused.0;
      not_full = not_full;
      at = λ setup of_image of_harts.
          let one = refused.1 setup (new.agrees setup of_image of_harts) in
          record {
            before = one.before;
            runs = one.runs;
            refused = subst (λ n. refusal setup n one.before.state (get_or order at.index 0) ≡ Some at.why) new.room_is
                one.refused;
            undefined = no_run setup order at.index first.room one.before at.why refused.0 one.runs not_full
                one.refused;
          };
    }

-- ---- The story

pub story_refusal : (image : ProgramImage) (harts : ℕ) (order : List ℕ) (first : Machine) (why : Untold)
    → IsNew image harts (length order) first → IsUntold order first why
    → IsStoryRefusal image harts order (refused_for why)
story_refusal image harts order first (untold.Step at) new is = stopped_at image harts order first at new is
story_refusal image harts order first untold.Output new is = tt

-- The story that is told is that of the form.
pub story_written : (story : Option StoryForm) (form : StoryForm) (setup : Setup) (order : List ℕ)
    (old new : Option (List ℕ)) → story ≡ Some form
    → Appends old new (story_text (plan_of form) (steps setup order))
    → Appends old new (told_text (option_map plan_of story) setup order)
story_written story form setup order old new is written =
    subst (λ s. Appends old new (told_text (option_map plan_of s) setup order)) (sym is) written
