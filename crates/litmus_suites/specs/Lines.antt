-- The line of a test in a summary. (This project's own choice, in the words of herd's observation: Alglave, Maranget and
-- Tautschnig 2014, "Herding Cats".)
use Rattle.std.specs.Prelude.{ℕ, ◌==◌, Bool, if◌then◌else◌, List, [], ◌∷◌, ◌++◌, codes}
use Rattle.std.specs.{Fmt.decimal}
use Rattle.litmus_suites.specs.declared.verdict.Verdict.{Verdict}
use Rattle.litmus_suites.specs.declared.verdict.Verdict.TheVariants.{Whole, NotComplete}

-- The word that says how often the condition holds, by of how many states it does, and of how many it doesn't.
abbrev pub word_of : ℕ → ℕ → List ℕ
word_of held others =
    if held == 0 then codes "Never" else (if others == 0 then codes "Always" else codes "Sometimes")

abbrev pub asked_text : Bool → List ℕ
asked_text asked = if asked then codes " Ok" else codes " No"

abbrev pub stuck_text : Bool → List ℕ
stuck_text stuck = if stuck then codes " stuck" else []

-- Of how many states the condition holds and of how many it doesn't, whether they are as the test asks, and whether harts
-- may wait for ever.
unfoldable pub whole_text : ℕ → ℕ → Bool → Bool → List ℕ
whole_text held others asked stuck = codes " " ++ (word_of held others ++ (codes " " ++ (decimal held ++ (codes " "
    ++ (decimal others ++ (asked_text asked ++ stuck_text stuck))))))

abbrev pub verdict_text : Verdict → List ℕ
verdict_text (Whole held others asked stuck) = whole_text held others asked stuck
verdict_text NotComplete = codes " not complete"

-- The line: the name as texts of an input are shown, and what is said of the test.
abbrev pub line_text : List ℕ → Verdict → List ℕ
line_text name verdict = name ++ (verdict_text verdict ++ 10 ∷ [])
