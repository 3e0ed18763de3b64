-- How the condition of a litmus test comes to hold of a state, or not to hold of one, as `litmus --why` tells it. (This
-- project's own choice.)
use Rattle.std.specs.Prelude.{◌≡◌, ◌⊎◌, ℕ, ◌+◌, ◌<◌, ◌≤◌, Bool, true, false, not, ◌&&◌, List, ◌++◌, codes, length, slice_get}
use Rattle.std.specs.Prelude.{Option, Some, None}
use Rattle.std.specs.Fmt.{decimal}
use Rattle.elf_image.specs.Image.{ProgramImage}
use Rattle.core_state.specs.Setup.{setup_of}
use Rattle.symbols.specs.Tables.{Table, AreNamesOf}
use Rattle.outcomes.specs.{Found.Told}
use Rattle.litmus_tests.specs.declared.test.LitmusTest.{LitmusTest}
use Rattle.litmus_tests.specs.declared.condition.Quantifier.{Quantifier}
use Rattle.litmus_tests.specs.declared.condition.Quantifier.TheVariants.{Exists, NotExists, ForAll}
use Rattle.litmus_files.specs.File.{test_file}
use Rattle.litmus_text.specs.{State.told_line, States.holds_of, States.passes, States.told_in}
use Rattle.sim_inputs.specs.{declared.settings.Settings.Settings}
use Rattle.sim_inputs.specs.declared.line.LitmusCommand.{LitmusCommand}
use Rattle.plain_commands.specs.{StateOrders.state_plan, WrittenOrders.IsStoryOf}
use Rattle.plain_commands.specs.declared.shown_states.Shortest.{Shortest}

-- The states that are asked for, or that are a counterexample: of `exists` and `~exists` those of which the condition
-- holds, of `forall` the others.
abbrev pub shows : Quantifier → Bool → Bool
shows Exists holds = holds
shows NotExists holds = holds
shows ForAll holds = not holds

abbrev pub is_shown : LitmusTest → Told → Bool
is_shown test told = passes test told && shows test.quantifier (holds_of test told)

-- An outcome with this order is such a state; of those before a place in the list none has a shorter order, and none
-- that stands before it one as short.
pub record IsShortestAt (test : LitmusTest) (listed : List Told) (place : ℕ) (shortest : Shortest) : Type 0 where
  pub told : Told
  pub stands : slice_get listed shortest.index ≡ Some told
  pub shown : is_shown test told ≡ true
  pub steps : shortest.steps ≡ length told.order
  pub first : (j : ℕ) (other : Told) → j < shortest.index → slice_get listed j ≡ Some other
      → is_shown test other ≡ true → shortest.steps < length other.order
  pub least : (j : ℕ) (other : Told) → j < place → slice_get listed j ≡ Some other
      → is_shown test other ≡ true → shortest.steps ≤ length other.order

-- Or none of them is such a state.
abbrev pub IsShortest : LitmusTest → List Told → ℕ → Option Shortest → Type 0
IsShortest test listed place (Some shortest) = IsShortestAt test listed place shortest
IsShortest test listed place None = (j : ℕ) (other : Told) → j < place → slice_get listed j ≡ Some other
    → is_shown test other ≡ false

-- The sentence before a story, with the number of the state among so many, from 1.
abbrev pub claim_of : Quantifier → List ℕ
claim_of Exists = codes "why: the condition holds of state "
claim_of NotExists = codes "why: the condition holds of state "
claim_of ForAll = codes "why: the condition doesn't hold of state "

abbrev pub part_of : Quantifier → List ℕ
part_of Exists = codes ", by this order:\n"
part_of NotExists = codes ", a counterexample, by this order:\n"
part_of ForAll = codes ", a counterexample, by this order:\n"

unfoldable pub shown_sentence : Quantifier → ℕ → ℕ → List ℕ
shown_sentence quantifier number count = claim_of quantifier
    ++ (decimal number ++ (codes " of " ++ (decimal count ++ part_of quantifier)))

abbrev pub each_sentence : List ℕ
each_sentence = codes "why: the condition holds of each state\n"

-- The story of a state's order, as `--story` has it for the state's line.
pub record IsStateStory (settings : Settings) (image : ProgramImage) (test : LitmusTest) (command : LitmusCommand)
    (told : Told) (story : List ℕ) : Type 0 where
  pub names : Table
  pub named : AreNamesOf (test_file test image) names
  pub is : IsStoryOf (setup_of image settings.config) (state_plan settings command names) told.order
      (Some (told_line test told)) story

-- The sentence says the number of the state's line, which is counted from 0 here.
pub record IsSentenceOf (test : LitmusTest) (listed : List Told) (told : Told) (sentence : List ℕ) : Type 0 where
  pub line : ℕ
  pub stands : slice_get (told_in test listed) line ≡ Some told
  pub is : sentence ≡ shown_sentence test.quantifier (line + 1) (length (told_in test listed))

-- The state is shown by that sentence, and behind it the story of its order.
pub record IsStateShown (settings : Settings) (image : ProgramImage) (test : LitmusTest) (command : LitmusCommand)
    (listed : List Told) (told : Told) (text : List ℕ) : Type 0 where
  pub sentence : List ℕ
  pub is_sentence : IsSentenceOf test listed told sentence
  pub story : List ℕ
  pub is_story : IsStateStory settings image test command told story
  pub is : text ≡ sentence ++ story

-- The shortest of all such states is shown so; where there is none, the condition of a `forall` holds of each.
pub record IsShortestShown (settings : Settings) (image : ProgramImage) (test : LitmusTest) (command : LitmusCommand)
    (listed : List Told) (text : List ℕ) : Type 0 where
  pub shortest : Shortest
  pub is_shortest : IsShortestAt test listed (length listed) shortest
  pub shown : IsStateShown settings image test command listed is_shortest.told text

pub record IsEachTold (test : LitmusTest) (listed : List Told) (text : List ℕ) : Type 0 where
  pub none : IsShortest test listed (length listed) None
  pub is : text ≡ each_sentence

abbrev pub IsHowTold : Settings → ProgramImage → LitmusTest → LitmusCommand → List Told → List ℕ → Type 0
IsHowTold settings image test command listed text =
    IsShortestShown settings image test command listed text ⊎ IsEachTold test listed text
