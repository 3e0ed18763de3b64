-- What is said of all final states together. [herd's own form: Alglave, Maranget and Tautschnig 2014, "Herding
-- Cats"]
use Rattle.std.specs.Prelude.{ℕ, ◌-◌, ◌==◌, Bool, true, false, if◌then◌else◌, List, ◌++◌, codes}
use Rattle.std.specs.{Fmt.decimal}
use Rattle.shown_text.specs.Shown.{shown}
use Rattle.litmus_tests.specs.declared.test.LitmusTest.{LitmusTest}
use Rattle.litmus_tests.specs.declared.condition.Quantifier.{Quantifier}
use Rattle.litmus_tests.specs.declared.condition.Quantifier.TheVariants.{Exists, NotExists, ForAll}
use Rattle.litmus_text.specs.Condition.{condition_text}

-- What the test is, and how many states there are.
abbrev pub head_of : Quantifier → List ℕ
head_of Exists = codes " Allowed\nStates "
head_of NotExists = codes " Forbidden\nStates "
head_of ForAll = codes " Required\nStates "

unfoldable pub head_text : LitmusTest → ℕ → List ℕ
head_text test count =
    codes "Test " ++ (shown test.name.items ++ (head_of test.quantifier ++ (decimal count ++ codes "\n")))

-- Whether they are as the test asks, and what stands before how many speak for it.
abbrev pub verdict_of : Bool → List ℕ
verdict_of true = codes "Ok\nWitnesses\nPositive: "
verdict_of false = codes "No\nWitnesses\nPositive: "

-- How many of them do: those of which the condition holds; or, where it may hold of
-- none, the others.
abbrev pub positive_of : Quantifier → ℕ → ℕ → ℕ
positive_of Exists held count = held
positive_of NotExists held count = count - held
positive_of ForAll held count = held

unfoldable pub negative_text : ℕ → List ℕ
negative_text negative = codes " Negative: " ++ (decimal negative ++ codes "\n")

abbrev pub witness_text : ℕ → ℕ → List ℕ
witness_text positive count = decimal positive ++ negative_text (count - positive)

-- The condition, and what stands before how often it holds.
abbrev pub quantifier_of : Quantifier → List ℕ
quantifier_of Exists = codes "Condition exists ("
quantifier_of NotExists = codes "Condition ~exists ("
quantifier_of ForAll = codes "Condition forall ("

unfoldable pub condition_end : List ℕ
condition_end = codes ")\nObservation "

unfoldable pub condition_line : LitmusTest → List ℕ
condition_line test =
    quantifier_of test.quantifier ++ (condition_text test test.condition ++ condition_end)

-- Of how many of so many states the condition itself holds.
unfoldable pub observation_of : ℕ → ℕ → List ℕ
observation_of held count = if held == 0 then codes " Never "
    else (if held == count then codes " Always " else codes " Sometimes ")

unfoldable pub numbers_text : ℕ → ℕ → List ℕ
numbers_text held count = decimal held ++ (codes " " ++ (decimal (count - held) ++ codes "\n"))

unfoldable pub observation_text : LitmusTest → ℕ → ℕ → List ℕ
observation_text test held count =
    shown test.name.items ++ (observation_of held count ++ numbers_text held count)

unfoldable pub summary_text : LitmusTest → Bool → ℕ → ℕ → List ℕ
summary_text test asked held count = verdict_of asked
    ++ (witness_text (positive_of test.quantifier held count) count
    ++ (condition_line test ++ observation_text test held count))
