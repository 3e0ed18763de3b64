-- The order that the command `outcomes` writes into a file. (This project's own choice.)
use Rattle.std.specs.Prelude.{◌≡◌, ◌⊎◌, ℕ, ◌-◌, ◌<◌, Bool, true, false, not, ◌&&◌, is_some, if◌then◌else◌, List, reverse}
use Rattle.std.specs.Prelude.{Option, Some, None, [], ◌++◌, length, position, option_map, flat_map}
use Rattle.std.specs.{Option.option_map_or, Option.option_and_then, Option.option_or}
use Rattle.elf_image.specs.Image.{ProgramImage}
use Rattle.core_state.specs.Setup.{setup_of}
use Rattle.smt_model.specs.{Setup.Setup, Basics.below, Plain.Run, Plain.run}
use Rattle.event_text.specs.Sinking.{HasPut}
use Rattle.searches.specs.declared.extent.Extent.{Extent}
use Rattle.searches.specs.declared.extent.Extent.TheVariants.{Whole}
use Rattle.outcomes.specs.{Found.Found, Found.Told, Told.order_listed, Told.ending_listed}
use Rattle.outcome_queries.specs.{declared.watched.Asked.Asked, Watches.registers_asked, Watches.memory_asked}
use Rattle.outcome_queries.specs.declared.question.Question.{Question}
use Rattle.outcome_queries.specs.declared.question.Question.TheVariants.{NeverStuck}
use Rattle.outcome_text.specs.Line.{outcome_line}
use Rattle.schedules.specs.Schedules.{IsScheduleOf}
use Rattle.sc_machine.specs.Machine.{Machine, Agrees}
use Rattle.stories.specs.Story.{steps}
use Rattle.story_text.specs.Text.{Plan, story_text}
use Rattle.stuck_harts.specs.Lines.{waiting_text}
use Rattle.symbols.specs.Tables.{Table}
use Rattle.stress_runs.specs.Kept.{order_text}
use Rattle.watched_outcomes.specs.declared.watch.Watch.{Watch}
use Rattle.sim_inputs.specs.{declared.settings.Settings.Settings, Files.written_order}
use Rattle.sim_inputs.specs.{declared.line.OutcomesCommand.OutcomesCommand}
use Rattle.command_parts.specs.{declared.refused.Refused.Refused}
use Rattle.command_parts.specs.declared.refused.Refused.TheVariants as reasons
use Rattle.plain_commands.specs.{Plain.IsMachineRefusal, Questions.settles, Schedule.IsMakingRefusal}
use Rattle.plain_commands.specs.DrawnOrders.{HasLongStory, IsPictureOf, picture_plan}
use Rattle.story_pictures.specs.{Form.theme_or, declared.form.Theme.Theme}

-- An order is written; and, where no outcome is named and none that is stuck, it is what settles the question.
abbrev pub wants_order : OutcomesCommand → Bool
wants_order command = is_some (written_order command)

abbrev pub is_answer_wanted : OutcomesCommand → Bool
is_answer_wanted command = wants_order command && not (is_some command.outcome) && not command.stuck

-- An order to a state that is stuck, where all states were looked at.
abbrev pub stuck_when : Extent → Option (List ℕ) → Option (List ℕ)
stuck_when Whole stuck = stuck
stuck_when extent stuck = None

abbrev pub stuck_told : Found → Option (List ℕ)
stuck_told found = stuck_when found.extent found.stuck

-- The order of the first outcome that settles a question.
abbrev pub first_settling : Watch → Option Question → Found → Option (List ℕ)
first_settling watch question found =
    option_and_then (order_listed found.listed)
    (position (λ (told : Told). settles watch question told.ending) found.listed)

-- And where it is asked whether a state is stuck, one to such a state; no outcome settles that question.
abbrev pub stuck_asked : Option Question → Found → Option (List ℕ)
stuck_asked (Some NeverStuck) found = stuck_told found
stuck_asked question found = None

abbrev pub settling_order : Watch → Option Question → Found → Option (List ℕ)
settling_order watch question found = option_or (first_settling watch question found) (stuck_asked question found)

-- The order that a command wants.
abbrev pub order_wanted : OutcomesCommand → Watch → Option Question → Found → Option (List ℕ)
order_wanted command watch question found =
    let settled = if command.stuck then stuck_told found else settling_order watch question found in
    if wants_order command
    then option_map_or (λ number. order_listed found.listed (number - 1)) command.outcome settled
    else None

-- The line of the outcome whose order a command wants; none where it is the order to a state that is stuck.
abbrev pub index_wanted : OutcomesCommand → Watch → Option Question → Found → Option ℕ
index_wanted command watch question found =
    let settled = position (λ (told : Told). settles watch question told.ending) found.listed in
    option_map_or (λ number. Some (number - 1)) command.outcome (if command.stuck then None else settled)

abbrev pub line_wanted : OutcomesCommand → List Asked → Watch → Option Question → Found → Option (List ℕ)
line_wanted command all watch question found =
    option_map (outcome_line (registers_asked all) (memory_asked all))
    (option_and_then (ending_listed found.listed) (index_wanted command watch question found))

-- The machine has made an order from the start.
pub record HasCome (setup : Setup) (order : List ℕ) (m : Machine) : Type 0 where
  pub ran : Run
  pub runs : run setup (reverse order) ≡ Some ran
  pub agrees : Agrees setup ran.state m

-- What stands behind a story: that line; or what each hart waits for, once the order was made.
abbrev pub waiting_behind : Table → Setup → Option Run → ℕ → List ℕ
waiting_behind names setup None h = []
waiting_behind names setup (Some ran) h = waiting_text names setup h ran.state

abbrev pub waits_text : Table → Setup → List ℕ → List ℕ
waits_text names setup order = flat_map (waiting_behind names setup (run setup (reverse order))) (below setup.harts)

abbrev pub closing_text : Table → Setup → List ℕ → Option (List ℕ) → List ℕ
closing_text names setup order (Some line) = line
closing_text names setup order None = waits_text names setup order

-- What is written of an order: a line for each hart; or a script by which the core retires in it; or its story; or a
-- picture of that.
abbrev pub IsStoryOf : Setup → Plan → List ℕ → Option (List ℕ) → List ℕ → Type 0
IsStoryOf setup plan order line text =
    text ≡ story_text plan (steps setup (reverse order)) ++ closing_text plan.names setup order line

-- The picture has these colours, and at its foot what stands behind the story.
abbrev pub IsDrawnBy : Option Theme → Setup → Plan → List ℕ → Option (List ℕ) → List ℕ → Type 0
IsDrawnBy theme setup plan order line text =
    IsPictureOf (picture_plan plan (closing_text plan.names setup order line) (theme_or theme)) setup order text

abbrev pub IsTextBy : Bool → Bool → Bool → Option Theme → Setup → ℕ → Plan → List ℕ → Option (List ℕ) → List ℕ → Type 0
IsTextBy true is_story is_drawn theme setup limit plan order line text = IsScheduleOf setup limit order text
IsTextBy false true is_drawn theme setup limit plan order line text = IsStoryOf setup plan order line text
IsTextBy false false true theme setup limit plan order line text = IsDrawnBy theme setup plan order line text
IsTextBy false false false theme setup limit plan order line text = text ≡ order_text order

abbrev pub IsTextOf : OutcomesCommand → Setup → ℕ → Plan → List ℕ → Option (List ℕ) → List ℕ → Type 0
IsTextOf command setup limit plan order line text =
    IsTextBy (is_some command.script) (is_some command.story) (is_some command.story_svg) command.theme setup limit plan
    order line text

-- The order is in the file, so written.
pub record IsOrderPut {S : Type 0} (written : S → Option (List ℕ)) (has_failed : S → Bool) (old new : S)
    (settings : Settings) (image : ProgramImage) (command : OutcomesCommand) (plan : Plan) (order : List ℕ)
    (line : Option (List ℕ)) : Type 0 where
  pub text : List ℕ
  pub is : IsTextOf command (setup_of image settings.config) settings.limit plan order line text
  pub put : HasPut written has_failed old new text

-- So it is where there is an order; else the file is what it was.
abbrev pub HasPutOrder : {S : Type 0} → (S → Option (List ℕ)) → (S → Bool) → S → S → Settings → ProgramImage
    → OutcomesCommand → Plan → Option (List ℕ) → Option (List ℕ) → Type 0
HasPutOrder written has_failed old new settings image command plan None line = new ≡ old
HasPutOrder written has_failed old new settings image command plan (Some order) line =
    IsOrderPut written has_failed old new settings image command plan order line

-- ---- Refusals

-- The outcome that is wanted isn't there; or no state is stuck.
abbrev pub IsListedRefusal : Found → ℕ → Refused → Type 0
IsListedRefusal found number (reasons.NoOutcome one) =
    (one ≡ number) × ((number ≡ 0) ⊎ (length found.listed < number))
IsListedRefusal found number reasons.Memory = Unit {0}
IsListedRefusal found number reason = ⊥

abbrev pub IsStuckRefusal : Found → Refused → Type 0
IsStuckRefusal found reasons.NotStuck = (found.extent ≡ Whole) × (found.stuck ≡ None)
IsStuckRefusal found reasons.Memory = Unit {0}
IsStuckRefusal found reason = ⊥

abbrev pub IsOrderRefusal : OutcomesCommand → Found → Refused → Type 0
IsOrderRefusal command found (reasons.NoOutcome number) =
    (command.outcome ≡ Some number) × ((number ≡ 0) ⊎ (length found.listed < number))
IsOrderRefusal command found reasons.NotStuck =
    (command.stuck ≡ true) × (found.extent ≡ Whole) × (found.stuck ≡ None)
IsOrderRefusal command found reasons.Memory = Unit {0}
IsOrderRefusal command found reason = ⊥

-- A script is wanted of an order that has none.
abbrev pub IsScriptRefusal : Settings → ProgramImage → List ℕ → Refused → Type 0
IsScriptRefusal settings image order reason =
    IsMakingRefusal (setup_of image settings.config) settings.limit order reason

-- The machine refuses an order whose story is wanted, or a picture of that; or a picture would have too many rows.
abbrev pub IsShownRefusal : Settings → ProgramImage → OutcomesCommand → List ℕ → Refused → Type 0
IsShownRefusal settings image command order reasons.LongStory =
    (is_some command.story_svg ≡ true) × HasLongStory image settings.config.harts order
IsShownRefusal settings image command order reason = IsMachineRefusal image settings.config.harts order reason

-- What is refused as an order is put into a file, or its script, or its story, or a picture of that.
abbrev pub IsTextRefusal : Settings → ProgramImage → OutcomesCommand → Refused → Type 0
IsTextRefusal settings image command reasons.Memory = Unit {0}
IsTextRefusal settings image command reasons.Output = Unit {0}
IsTextRefusal settings image command reason = (order : List ℕ)
    × ((is_some command.script ≡ true) × IsScriptRefusal settings image order reason
    ⊎ IsShownRefusal settings image command order reason)
