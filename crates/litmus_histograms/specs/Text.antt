-- The text of a histogram. [litmus7's own form, without its times and sums: Alglave, Maranget, Sarkar and Sewell 2011,
-- "Litmus: Running Tests Against Hardware"]
use Rattle.std.specs.Prelude.{ℕ, ◌-◌, ◌==◌, ◌&&◌, nat_lt, Bool, true, false, if◌then◌else◌, List, [], ◌∷◌, ◌++◌, codes}
use Rattle.std.specs.Prelude.{count_by, flat_map, length, replicate}
use Rattle.std.specs.{Fmt.decimal}
use Rattle.shown_text.specs.Shown.{shown}
use Rattle.outcomes.specs.{Found.Told}
use Rattle.watched_outcomes.specs.Endings.{Ending}
use Rattle.stress_runs.specs.Ends.{same_end}
use Rattle.litmus_tests.specs.declared.test.LitmusTest.{LitmusTest}
use Rattle.litmus_tests.specs.declared.condition.Quantifier.{Quantifier}
use Rattle.litmus_tests.specs.declared.condition.Quantifier.TheVariants.{Exists, NotExists, ForAll}
use Rattle.litmus_text.specs.{Condition.condition_text, State.state_line}
use Rattle.litmus_histograms.specs.Kinds.{is_held, is_kind, is_passed}
use Rattle.litmus_histograms.specs.declared.kinds.RunKind.TheVariants.{Held, Other, LeftOut, NotEnded}

-- How many runs have ended as a state says, by what says how many have ended so that a test holds.
abbrev pub runs_of : ((Ending → Bool) → ℕ) → Ending → ℕ
runs_of count state = count (λ end. same_end end state)

-- ---- The line of a state

-- The count, with blanks behind it up to six characters; and whether the condition holds.
abbrev pub count_field : ℕ → List ℕ
count_field count = decimal count ++ replicate (6 - length (decimal count)) 32

abbrev pub sign_of : Bool → List ℕ
sign_of held = if held then codes "*>" else codes ":>"

unfoldable pub bar_text : LitmusTest → ℕ → Ending → List ℕ
bar_text test runs state = count_field runs ++ (sign_of (is_held test state) ++ state_line test state)

-- It stands there where the filter holds of the state, and runs have come to it.
abbrev pub has_bar_of : LitmusTest → ((Ending → Bool) → ℕ) → Ending → Bool
has_bar_of test count state = is_passed test state && nat_lt 0 (runs_of count state)

abbrev pub bar_of : LitmusTest → ((Ending → Bool) → ℕ) → Ending → List ℕ
bar_of test count state = if has_bar_of test count state then bar_text test (runs_of count state) state else []

abbrev pub has_bar_for : LitmusTest → ((Ending → Bool) → ℕ) → Told → Bool
has_bar_for test count told = has_bar_of test count told.ending

abbrev pub bar_for : LitmusTest → ((Ending → Bool) → ℕ) → Told → List ℕ
bar_for test count told = bar_of test count told.ending

-- ---- What is said of all runs

-- What the test is, and to how many states runs have come.
abbrev pub kind_of_test : Quantifier → List ℕ
kind_of_test Exists = codes " Allowed\nHistogram ("
kind_of_test NotExists = codes " Forbidden\nHistogram ("
kind_of_test ForAll = codes " Required\nHistogram ("

unfoldable pub head_text : LitmusTest → ℕ → List ℕ
head_text test states = codes "Test " ++ (shown test.name.items ++ (kind_of_test test.quantifier
    ++ (decimal states ++ codes " states)\n")))

-- Whether the runs are as the test asks, of which the condition holds of so many, and doesn't of so many others.
abbrev pub is_as_asked : Quantifier → ℕ → ℕ → Bool
is_as_asked Exists held other = nat_lt 0 held
is_as_asked NotExists held other = held == 0
is_as_asked ForAll held other = other == 0

abbrev pub verdict_of : Bool → List ℕ
verdict_of true = codes "Ok\n\nWitnesses\nPositive: "
verdict_of false = codes "No\n\nWitnesses\nPositive: "

-- How many speak for what is asked: those of which the condition holds; or, where it may hold of none, the others.
unfoldable pub negative_text : ℕ → List ℕ
negative_text negative = codes ", Negative: " ++ (decimal negative ++ codes "\n")

abbrev pub witness_text : ℕ → ℕ → List ℕ
witness_text positive negative = decimal positive ++ negative_text negative

abbrev pub witness_line : Quantifier → ℕ → ℕ → List ℕ
witness_line Exists held other = witness_text held other
witness_line NotExists held other = witness_text other held
witness_line ForAll held other = witness_text held other

abbrev pub condition_begin : Quantifier → List ℕ
condition_begin Exists = codes "Condition exists ("
condition_begin NotExists = codes "Condition ~exists ("
condition_begin ForAll = codes "Condition forall ("

abbrev pub validated : Bool → List ℕ
validated true = codes ") is validated\nObservation "
validated false = codes ") is NOT validated\nObservation "

unfoldable pub condition_line : LitmusTest → Bool → List ℕ
condition_line test asked =
    condition_begin test.quantifier ++ (condition_text test test.condition ++ validated asked)

unfoldable pub often : ℕ → ℕ → List ℕ
often held other = if held == 0 then codes " Never "
    else (if other == 0 then codes " Always " else codes " Sometimes ")

unfoldable pub observation_text : LitmusTest → ℕ → ℕ → List ℕ
observation_text test held other = shown test.name.items ++ (often held other
    ++ (decimal held ++ (codes " " ++ (decimal other ++ codes "\n"))))

-- How many runs aren't told of: the filter leaves them out, or they haven't ended. litmus7 has no such lines.
abbrev pub runs_line : List ℕ → ℕ → List ℕ
runs_line what runs = if runs == 0 then [] else what ++ (decimal runs ++ codes "\n")

unfoldable pub rest_text : ℕ → ℕ → List ℕ
rest_text left_out not_ended =
    runs_line (codes "Left out by the filter: ") left_out ++ runs_line (codes "Not ended: ") not_ended

unfoldable pub summary_text : LitmusTest → ℕ → ℕ → ℕ → ℕ → List ℕ
summary_text test held other left_out not_ended =
    let asked = is_as_asked test.quantifier held other in
    verdict_of asked ++ (witness_line test.quantifier held other ++ (condition_line test asked
    ++ (observation_text test held other ++ rest_text left_out not_ended)))

-- ---- All of it

-- What the test is; for each state that is listed, in that order, its line, if it has one; and what is said of all runs.
unfoldable pub histogram_text : LitmusTest → ((Ending → Bool) → ℕ) → List Told → List ℕ
histogram_text test count listed = head_text test (count_by (has_bar_for test count) listed)
    ++ (flat_map (bar_for test count) listed
    ++ summary_text test (count (is_kind test Held)) (count (is_kind test Other)) (count (is_kind test LeftOut))
    (count (is_kind test NotEnded)))
