-- The text of all final states of a litmus test. [herd's own form, without its times and sums: Alglave, Maranget
-- and Tautschnig 2014, "Herding Cats"]
use Rattle.std.specs.Prelude.{ℕ, Bool, List, [], ◌++◌, ◌&&◌, if◌then◌else◌, filter, flat_map, length, map}
use Rattle.outcomes.specs.{Found.Told}
use Rattle.litmus_tests.specs.declared.test.LitmusTest.{LitmusTest}
use Rattle.litmus_tests.specs.Conditions.{FinalState, holds, holding, is_as_asked}
use Rattle.litmus_images.specs.Watching.{final_state}
use Rattle.litmus_text.specs.{State.told_line, Summary.head_text, Summary.summary_text}

-- The final states that the outcomes are.
abbrev pub state_of : LitmusTest → Told → FinalState
state_of test told = final_state test told.ending

-- The filter holds of it: it is a final state of the test.
abbrev pub passes : LitmusTest → Told → Bool
passes test told = holds (state_of test told) test.filter

abbrev pub told_in : LitmusTest → List Told → List Told
told_in test listed = filter (passes test) listed

abbrev pub states_in : LitmusTest → List Told → List FinalState
states_in test listed = map (state_of test) (told_in test listed)

abbrev pub holds_of : LitmusTest → Told → Bool
holds_of test told = holds (state_of test told) test.condition

-- It is a final state of the test, and the condition holds of it.
abbrev pub is_held : LitmusTest → Told → Bool
is_held test told = passes test told && holds_of test told

-- Its line, if it is a final state of the test.
abbrev pub line_if : LitmusTest → Told → List ℕ
line_if test told = if passes test told then told_line test told else []

-- What the test is, a line for each state, and what is said of all of them.
unfoldable pub states_text : LitmusTest → List Told → List ℕ
states_text test listed = head_text test (length (told_in test listed))
    ++ (flat_map (told_line test) (told_in test listed)
    ++ summary_text test (is_as_asked test.quantifier test.condition (states_in test listed))
    (holding (states_in test listed) test.condition) (length (told_in test listed)))
