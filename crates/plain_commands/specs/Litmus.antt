-- The command `litmus`: every final state of a litmus test. (This project's own choice, after herd.)
use Rattle.std.specs.Prelude.{◌≡◌, ◌⊎◌, ℕ, nat_lt, Bool, true, false, is_some, List, [], ◌++◌}
use Rattle.std.specs.Prelude.{Option, length}
use Rattle.std.specs.Io.KnownBytes.{Appends}
use Rattle.elf_image.specs.Image.{ProgramImage}
use Rattle.outcomes.specs.{Found.Found, Found.Told}
use Rattle.watched_outcomes.specs.{declared.watch.Watch.Watch}
use Rattle.outcomes.specs.{Found.InEachSetup, Found.IsExactList, Found.CoversCores, Found.IsOnce, Refusals.IsBeyond}
use Rattle.outcome_text.specs.Listing.{incomplete_text, ends_text}
use Rattle.litmus_tests.specs.declared.test.LitmusTest.{LitmusTest}
use Rattle.litmus_tests.specs.{WellFormed.IsWellFormed, Conditions.holding}
use Rattle.litmus_words.specs.Places.{IsPlaceIn}
use Rattle.litmus_files.specs.File.{test_file}
use Rattle.litmus_reading.specs.Texts.{IsNoTest, IsTextOf}
use Rattle.litmus_images.specs.{Image.IsLitmusImage, Watching.registers_observed, Watching.words_observed}
use Rattle.litmus_text.specs.States.{states_text, states_in}
use Rattle.sim_inputs.specs.declared.line.LitmusCommand.{LitmusCommand}
use Rattle.sim_inputs.specs.{declared.settings.Settings.Settings}
use Rattle.command_parts.specs.declared.refused.Refused.{Refused}
use Rattle.command_parts.specs.declared.refused.Refused.TheVariants as reasons
use Rattle.plain_commands.specs.StateOrders.{HasWrittenState, IsStateRefusal, settings_for, state_asked}
use Rattle.plain_commands.specs.ShownStates.{IsHowTold}

-- The test's image, and what is watched of it.
pub record IsSearched (test : LitmusTest) (image : ProgramImage) (watch : Watch) : Type 0 where
  pub is_image : IsLitmusImage test image
  pub registers : watch.registers.items ≡ registers_observed test.observed.items
  pub words : watch.words.items ≡ words_observed test.locations.items test.observed.items

-- What is said of why the condition holds of no state, or how it comes to hold of one: nothing where that isn't asked.
abbrev pub IsWhy : Bool → Bool → Settings → ProgramImage → LitmusTest → LitmusCommand → List Told → List ℕ → Type 0
IsWhy false can_come settings image test command listed text = text ≡ []
IsWhy true true settings image test command listed text = IsHowTold settings image test command listed text
IsWhy true false settings image test command listed text = Unit {0}

abbrev pub can_come : LitmusTest → List Told → Bool
can_come test listed = nat_lt 0 (holding (states_in test listed) test.condition)

-- The states are printed that these outcomes are; behind them `stuck`, where there is an order to a state that has no
-- way to an end, else `always can end`; and behind that why, where that is asked.
pub record IsTold (settings : Settings) (image : ProgramImage) (test : LitmusTest) (command : LitmusCommand)
    (found : Found) (old new : Option (List ℕ)) : Type 0 where
  pub why : List ℕ
  pub is_why : IsWhy command.why (can_come test found.listed) settings image test command found.listed why
  pub printed : Appends old new (states_text test found.listed ++ (ends_text (is_some found.stuck) ++ why))

-- The order of the state that the command names is written, where neither a picture is written nor, before it, the
-- image.
abbrev pub IsStateTold : Settings → ProgramImage → LitmusTest → LitmusCommand → (List ℕ → Type 0) → List Told → Type 0
IsStateTold settings image test command Put listed = is_some command.svg ≡ false
    → HasWrittenState settings image test command Put (state_asked command) listed

-- Where the image is wanted, and neither a picture nor the order of a state is, its file is what was put into the file.
abbrev pub KeepsImage : LitmusTest → LitmusCommand → ProgramImage → (List ℕ → Type 0) → Type 0
KeepsImage test command image Put = is_some command.image ≡ true → is_some command.svg ≡ false
    → is_some command.outcome ≡ false → Put (test_file test image)

-- All final states are printed: those in which the test's image can end, whatever order its harts take, each of them
-- an end of some order, and listed once; and every core that runs the image ends in one of them. What is said of stuck
-- states is so (`IsExactList`): of `stuck`, that order leads to where no order leads on to an end; of `always can
-- end`, some order leads on to one from wherever an order leads to. The order of the state that the command names is
-- written: `Put` says what was.
pub record PrintsAllStates (test : LitmusTest) (settings : Settings) (command : LitmusCommand)
    (Put : List ℕ → Type 0) (old new : Option (List ℕ)) (exit_status : ℕ) : Type 0 where
  pub image : ProgramImage
  pub watch : Watch
  pub searched : IsSearched test image watch
  pub kept : KeepsImage test command image Put
  pub found : Found
  pub all : InEachSetup image (length test.threads.items) (λ setup. IsExactList setup watch found)
  pub cores : InEachSetup image (length test.threads.items) (λ setup. CoversCores setup watch found)
  pub once : IsOnce found
  pub told : IsTold settings image test command found old new
  pub written : is_some command.image ≡ false → IsStateTold settings image test command Put found.listed
  pub zero : exit_status ≡ 0

-- More states than were to be looked at can be reached, and that is printed.
pub record PrintsIncompleteTest (test : LitmusTest) (command : LitmusCommand) (Put : List ℕ → Type 0)
    (old new : Option (List ℕ)) (exit_status : ℕ) : Type 0 where
  pub image : ProgramImage
  pub watch : Watch
  pub searched : IsSearched test image watch
  pub kept : KeepsImage test command image Put
  pub beyond : IsBeyond image (length test.threads.items) command.states
  pub printed : Appends old new (incomplete_text command.states)
  pub three : exit_status ≡ 3

-- What the command comes to with a test, where Put says what was put into its file.
abbrev pub TestComesTo : LitmusTest → Settings → LitmusCommand → (List ℕ → Type 0) → Option (List ℕ) → Option (List ℕ)
    → ℕ → Type 0
TestComesTo test settings command Put old new status =
    PrintsAllStates test settings command Put old new status ⊎ PrintsIncompleteTest test command Put old new status

-- So it does with the test that the text is, with the settings for it.
pub record LitmusComesTo (text : List ℕ) (settings : Settings) (command : LitmusCommand) (Put : List ℕ → Type 0)
    (old new : Option (List ℕ)) (exit_status : ℕ) : Type 0 where
  pub test : LitmusTest
  pub is_text : IsTextOf text test
  pub well_formed : IsWellFormed test
  pub comes : TestComesTo test (settings_for test settings) command Put old new exit_status

-- What is refused of a text: no test is spelled by it, and a place of it is named. Of memory nothing is said.
abbrev pub IsTextRefusal : List ℕ → Refused → Type 0
IsTextRefusal text (reasons.Litmus place fault) = IsPlaceIn text place × IsNoTest text
IsTextRefusal text reasons.Memory = Unit {0}
IsTextRefusal text _ = ⊥

-- What is refused of a picture, and of states that are told: a picture is wanted, and there is nothing to draw, or too
-- much.
abbrev pub IsPictureRefusal : Refused → Type 0
IsPictureRefusal reasons.NothingToDraw = Unit {0}
IsPictureRefusal reasons.LongStory = Unit {0}
IsPictureRefusal reasons.Memory = Unit {0}
IsPictureRefusal _ = ⊥

abbrev pub IsStatesRefusal : LitmusCommand → Refused → Type 0
IsStatesRefusal command reasons.NothingToDraw = is_some command.svg ≡ true
IsStatesRefusal command reasons.LongStory = is_some command.svg ≡ true
IsStatesRefusal command reasons.Memory = Unit {0}
IsStatesRefusal command reasons.Output = Unit {0}
IsStatesRefusal command _ = ⊥

-- So it is where an order is written before them, of these states.
abbrev pub IsWrittenRefusal : Settings → ProgramImage → LitmusTest → LitmusCommand → List Told → Refused → Type 0
IsWrittenRefusal settings image test command listed why = IsStatesRefusal command why
    ⊎ IsStateRefusal settings image test command listed why

-- What is refused of a test: of the states of its image, which are all.
pub record OfStates (test : LitmusTest) (Holds : ProgramImage → List Told → Type 0) : Type 0 where
  pub image : ProgramImage
  pub watch : Watch
  pub searched : IsSearched test image watch
  pub found : Found
  pub all : InEachSetup image (length test.threads.items) (λ setup. IsExactList setup watch found)
  pub once : IsOnce found
  pub holds : Holds image found.listed

abbrev pub IsTestRefusal : LitmusTest → Settings → LitmusCommand → Refused → Type 0
IsTestRefusal test settings command why = IsStatesRefusal command why
    ⊎ OfStates test (λ image listed. IsStateRefusal settings image test command listed why)

-- When each refusal comes: the text is looked at first, and behind it the test that it is.
abbrev pub IsLitmusRefusal : List ℕ → Settings → LitmusCommand → Refused → Type 0
IsLitmusRefusal text settings command why = IsTextRefusal text why
    ⊎ ((test : LitmusTest) × IsTextOf text test × IsWellFormed test
    × IsTestRefusal test (settings_for test settings) command why)
