-- The order that leads to a final state of a litmus test, as the command `litmus` writes it. (This project's own choice.)
use Rattle.std.specs.Prelude.{◌≡◌, ◌⊎◌, ℕ, ◌-◌, ◌<◌, true, if◌then◌else◌, List, length, slice_get}
use Rattle.std.specs.Prelude.{Option, Some, None, is_some}
use Rattle.elf_image.specs.Image.{ProgramImage}
use Rattle.core_state.specs.Setup.{setup_of}
use Rattle.address_labels.specs.Labels.{no_marks}
use Rattle.symbols.specs.Tables.{Table, AreNamesOf}
use Rattle.story_text.specs.Text.{Plan}
use Rattle.outcomes.specs.{Found.Told}
use Rattle.litmus_tests.specs.declared.test.LitmusTest.{LitmusTest}
use Rattle.litmus_files.specs.File.{test_file}
use Rattle.litmus_text.specs.{State.told_line, States.told_in}
use Rattle.sim_inputs.specs.{declared.settings.Settings.Settings, TestOrders.order_asked, Configuration.with_harts}
use Rattle.sim_inputs.specs.declared.line.LitmusCommand.{LitmusCommand}
use Rattle.command_parts.specs.declared.refused.Refused.{Refused}
use Rattle.command_parts.specs.declared.refused.Refused.TheVariants as reasons
use Rattle.plain_commands.specs.WrittenOrders.{IsTextOf, IsTextRefusal, wants_order}

-- The settings, with as many harts as the test has.
abbrev pub settings_for : LitmusTest → Settings → Settings
settings_for test settings = with_harts (Some (length test.threads.items)) settings

-- How the story of a state's order is told that a command wants: with these names, and nothing behind its rows.
abbrev pub state_plan : Settings → LitmusCommand → Table → Plan
state_plan settings command names = record {
  harts = settings.config.harts;
  all = command.all;
  names = names;
  marks = no_marks;
}

-- The order of a final state is written, as it is, as its script, as its story or as a picture of that: the names are
-- those of the test's file, and behind the story stands the state's line. `Put` says what was written.
pub record IsStateWritten (settings : Settings) (image : ProgramImage) (test : LitmusTest) (command : LitmusCommand)
    (Put : List ℕ → Type 0) (told : Told) : Type 0 where
  pub names : Table
  pub named : AreNamesOf (test_file test image) names
  pub text : List ℕ
  pub is : IsTextOf (order_asked command) (setup_of image settings.config) settings.limit
      (state_plan settings command names) told.order (Some (told_line test told)) text
  pub put : Put text

-- The number of the final state whose order a command wants, from 1, in the order of their lines.
abbrev pub state_asked : LitmusCommand → Option ℕ
state_asked command = if wants_order (order_asked command) then command.outcome else None

-- So it is of the final state with a number; where there is none nothing is said.
abbrev pub HasWrittenState : Settings → ProgramImage → LitmusTest → LitmusCommand → (List ℕ → Type 0) → Option ℕ
    → List Told → Type 0
HasWrittenState settings image test command Put None listed = Unit {0}
HasWrittenState settings image test command Put (Some number) listed = (told : Told)
    × (slice_get (told_in test listed) (number - 1) ≡ Some told)
    × IsStateWritten settings image test command Put told

-- What is refused of it: there are fewer final states; or it is what is refused of an order's text.
abbrev pub LacksState : LitmusTest → LitmusCommand → List Told → Refused → Type 0
LacksState test command listed (reasons.NoOutcome number) =
    (state_asked command ≡ Some number) × ((number ≡ 0) ⊎ (length (told_in test listed) < number))
LacksState test command listed _ = ⊥

abbrev pub IsStateRefusal : Settings → ProgramImage → LitmusTest → LitmusCommand → List Told → Refused → Type 0
IsStateRefusal settings image test command listed why =
    LacksState test command listed why
    ⊎ ((is_some (state_asked command) ≡ true) × IsTextRefusal settings image (order_asked command) why)
