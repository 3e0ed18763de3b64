-- How a condition is written. [herd's own notation: Alglave, Maranget and Tautschnig 2014, "Herding Cats"]
use Rattle.std.specs.Prelude.{Bool, true, false, nat_lt, if◌then◌else◌, List, ℕ, [], ◌++◌, codes}
use Rattle.litmus_tests.specs.declared.test.LitmusTest.{LitmusTest}
use Rattle.litmus_tests.specs.declared.condition.Term.{Term}
use Rattle.litmus_tests.specs.declared.condition.Condition.{Condition, Always, Holds, Not', Both', Either', Implies', Equivalent'}
use Rattle.litmus_text.specs.Value.{observed_text, value_text}

abbrev pub term_text : LitmusTest → Term → List ℕ
term_text test term = observed_text test term.observed ++ (codes "=" ++ value_text test term.value)

-- How tightly each binds.
abbrev pub binding : Condition → ℕ
binding Always = 4
binding (Holds term) = 4
binding (Not' p condition) = 4
binding (Both' p first q second) = 3
binding (Either' p first q second) = 2
binding (Implies' p first q second) = 1
binding (Equivalent' p first q second) = 0

-- What binds less tightly than it has to at its place has parentheses.
unfoldable pub binds_less : Condition → ℕ → Bool
binds_less condition least = nat_lt (binding condition) least

abbrev pub opening : Bool → List ℕ
opening needed = if needed then codes "(" else []

abbrev pub closing : Bool → List ℕ
closing needed = if needed then codes ")" else []

unfoldable pub joint : Bool → List ℕ → Bool → List ℕ
joint left sign right = closing left ++ (sign ++ opening right)

-- `\/`, `/\` and `<=>` are read from the left, `=>` from the right.
abbrev pub condition_text : LitmusTest → Condition → List ℕ
condition_text test Always = codes "true"
condition_text test (Holds term) = term_text test term
condition_text test (Not' p condition) = codes "not "
    ++ (opening (binds_less condition 4) ++ (condition_text test condition ++ closing (binds_less condition 4)))
condition_text test (Both' p first q second) = opening (binds_less first 3)
    ++ (condition_text test first ++ (joint (binds_less first 3) (codes " /\\ ") (binds_less second 3)
    ++ (condition_text test second ++ closing (binds_less second 3))))
condition_text test (Either' p first q second) = opening (binds_less first 2)
    ++ (condition_text test first ++ (joint (binds_less first 2) (codes " \\/ ") (binds_less second 2)
    ++ (condition_text test second ++ closing (binds_less second 2))))
condition_text test (Implies' p first q second) = opening (binds_less first 2)
    ++ (condition_text test first ++ (joint (binds_less first 2) (codes " => ") (binds_less second 1)
    ++ (condition_text test second ++ closing (binds_less second 1))))
condition_text test (Equivalent' p first q second) = opening (binds_less first 0)
    ++ (condition_text test first ++ (joint (binds_less first 0) (codes " <=> ") (binds_less second 1)
    ++ (condition_text test second ++ closing (binds_less second 1))))
