-- An order that is put into a file: its refusals, and what was put.
use Rattle.std.specs.Prelude.{◌≡◌, ◌⊎◌, ℕ, Bool, true, List, Option, Some, None, is_some}
use Rattle.std.proofs.Common.{inl, inr}
use Rattle.elf_image.specs.Image.{ProgramImage}
use Rattle.core_state.specs.Setup.{setup_of}
use Rattle.story_text.specs.Text.{Plan}
use Rattle.sim_inputs.specs.{declared.settings.Settings.Settings}
use Rattle.sim_inputs.specs.{declared.line.OutcomesCommand.OutcomesCommand}
use Rattle.command_parts.specs.declared.refused.Refused.{Refused}
use Rattle.command_parts.specs.declared.refused.Refused.TheVariants as reason
use Rattle.plain_commands.specs.Outcomes.{HasPutText, IsTextIf}
use Rattle.plain_commands.specs.{DrawnOrders.IsDrawingRefusal, Plain.IsMachineRefusal}
use Rattle.plain_commands.specs.WrittenOrders.{HasPutOrder, IsScriptRefusal, IsTextRefusal}

module _ (settings : Settings) (image : ProgramImage) (command : OutcomesCommand) (order : List ℕ) where
  -- A script is refused that is wanted; or the machine refuses the order whose story is wanted.
  pub script_refused : is_some command.script ≡ true → (why : Refused) → IsScriptRefusal settings image order why
      → IsTextRefusal settings image command why
  script_refused wanted (reason.Image number) is = (order, inl (wanted, is))
  script_refused wanted reason.Config is = (order, inl (wanted, is))
  script_refused wanted reason.Harts is = (order, inl (wanted, is))
  script_refused wanted (reason.Script number) is = (order, inl (wanted, is))
  script_refused wanted (reason.Order index) is = (order, inl (wanted, is))
  script_refused wanted (reason.Step index stopped) is = (order, inl (wanted, is))
  script_refused wanted (reason.Trace line rule) is = (order, inl (wanted, is))
  script_refused wanted reason.Version is = (order, inl (wanted, is))
  script_refused wanted (reason.Event index rule) is = (order, inl (wanted, is))
  script_refused wanted (reason.Prediction index) is = (order, inl (wanted, is))
  script_refused wanted (reason.Register index) is = (order, inl (wanted, is))
  script_refused wanted (reason.NoUnit kind) is = (order, inl (wanted, is))
  script_refused wanted (reason.Limit least) is = (order, inl (wanted, is))
  script_refused wanted (reason.NoHart hart) is = (order, inl (wanted, is))
  script_refused wanted (reason.Lines number fault) is = (order, inl (wanted, is))
  script_refused wanted (reason.NamesNothing option) is = (order, inl (wanted, is))
  script_refused wanted (reason.NamesSeveral option) is = (order, inl (wanted, is))
  script_refused wanted (reason.NeverFetched option) is = (order, inl (wanted, is))
  script_refused wanted (reason.Turned from to) is = (order, inl (wanted, is))
  script_refused wanted (reason.Picture last) is = (order, inl (wanted, is))
  script_refused wanted (reason.Watch why) is = (order, inl (wanted, is))
  script_refused wanted (reason.Condition why) is = (order, inl (wanted, is))
  script_refused wanted reason.ManyWatched is = (order, inl (wanted, is))
  script_refused wanted (reason.NoWord address) is = (order, inl (wanted, is))
  script_refused wanted (reason.NoOutcome number) is = (order, inl (wanted, is))
  script_refused wanted reason.NotStuck is = (order, inl (wanted, is))
  script_refused wanted reason.LongStory is = (order, inl (wanted, is))
  script_refused wanted reason.NoAnswer is = (order, inl (wanted, is))
  script_refused wanted (reason.Litmus place fault) is = (order, inl (wanted, is))
  script_refused wanted reason.NothingToDraw is = (order, inl (wanted, is))
  script_refused wanted reason.Memory is = tt
  script_refused wanted reason.Thread is = (order, inl (wanted, is))
  script_refused wanted reason.File is = (order, inl (wanted, is))
  script_refused wanted reason.Output is = tt

  pub story_refused : (why : Refused) → IsMachineRefusal image settings.config.harts order why
      → IsTextRefusal settings image command why
  story_refused (reason.Image number) is = (order, inr is)
  story_refused reason.Config is = (order, inr is)
  story_refused reason.Harts is = (order, inr is)
  story_refused (reason.Script number) is = (order, inr is)
  story_refused (reason.Order index) is = (order, inr is)
  story_refused (reason.Step index stopped) is = (order, inr is)
  story_refused (reason.Trace line rule) is = (order, inr is)
  story_refused reason.Version is = (order, inr is)
  story_refused (reason.Event index rule) is = (order, inr is)
  story_refused (reason.Prediction index) is = (order, inr is)
  story_refused (reason.Register index) is = (order, inr is)
  story_refused (reason.NoUnit kind) is = (order, inr is)
  story_refused (reason.Limit least) is = (order, inr is)
  story_refused (reason.NoHart hart) is = (order, inr is)
  story_refused (reason.Lines number fault) is = (order, inr is)
  story_refused (reason.NamesNothing option) is = (order, inr is)
  story_refused (reason.NamesSeveral option) is = (order, inr is)
  story_refused (reason.NeverFetched option) is = (order, inr is)
  story_refused (reason.Turned from to) is = (order, inr is)
  story_refused (reason.Picture last) is = (order, inr is)
  story_refused (reason.Watch why) is = (order, inr is)
  story_refused (reason.Condition why) is = (order, inr is)
  story_refused reason.ManyWatched is = (order, inr is)
  story_refused (reason.NoWord address) is = (order, inr is)
  story_refused (reason.NoOutcome number) is = (order, inr is)
  story_refused reason.NotStuck is = (order, inr is)
  story_refused reason.LongStory is = absurd is
  story_refused reason.NoAnswer is = (order, inr is)
  story_refused (reason.Litmus place fault) is = (order, inr is)
  story_refused reason.NothingToDraw is = (order, inr is)
  story_refused reason.Memory is = tt
  story_refused reason.Thread is = (order, inr is)
  story_refused reason.File is = (order, inr is)
  story_refused reason.Output is = tt

  pub picture_refused : is_some command.story_svg ≡ true → (why : Refused)
      → IsDrawingRefusal image settings.config.harts order why → IsTextRefusal settings image command why
  picture_refused wanted reason.Config is = (order, inr is)
  picture_refused wanted (reason.Step index stopped) is = (order, inr is)
  picture_refused wanted reason.LongStory is = (order, inr (wanted, is))
  picture_refused wanted reason.Memory is = tt
  picture_refused wanted _ is = absurd is

module _ {S : Type 0} (written : S → Option (List ℕ)) (has_failed : S → Bool) (old new : S) (settings : Settings)
    (image : ProgramImage) (command : OutcomesCommand) (plan : Plan) where
  -- What was put of an order is its text; of none, nothing.
  pub text_put : (order line : Option (List ℕ))
      → HasPutOrder written has_failed old new settings image command plan order line
      → (text : Option (List ℕ)) × IsTextIf command (setup_of image settings.config) settings.limit plan order line text
      × HasPutText written has_failed old new text
  text_put None line is = (None, tt, is)
  text_put (Some order) line is = (Some is.text, is.is, is.put)
