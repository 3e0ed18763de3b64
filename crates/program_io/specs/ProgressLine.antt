-- The line that shows on a terminal how far a run is.
use Rattle.std.specs.Prelude.{ℕ, ◌==◌, if◌then◌else◌, List, [], ◌∷◌, ◌++◌, codes}
use Rattle.std.specs.Fmt.{decimal}

-- Has a terminal forget what it shows from its cursor to the end of the line.
abbrev pub erase : List ℕ
erase = 27 ∷ codes "[K"

-- Which of several runs it is; of one run nothing is said.
abbrev pub run_text : ℕ → ℕ → List ℕ
run_text run times =
    if times == 0 then []
    else codes "run " ++ (decimal run ++ (codes " of " ++ (decimal times ++ codes ", ")))

-- How many events there are, out of how many; the seconds that all took so far, and nothing behind them.
abbrev pub events_text : ℕ → ℕ → List ℕ
events_text events limit = decimal events ++ (codes " of " ++ (decimal limit ++ codes " events, "))

abbrev pub seconds_text : ℕ → List ℕ
seconds_text seconds = decimal seconds ++ (codes " s" ++ erase)

-- How many steps of rounds there are, and how many harts go.
abbrev pub steps_text : ℕ → ℕ → List ℕ
steps_text steps going = decimal steps ++ (codes " steps, " ++ (decimal going ++ codes " harts going, "))

abbrev pub rounds_line : ℕ → ℕ → ℕ → List ℕ
rounds_line steps going seconds = 13 ∷ (codes "smtsim: " ++ (steps_text steps going ++ seconds_text seconds))

-- How many states of a search there are, and how many of them are still to be looked at.
abbrev pub states_text : ℕ → ℕ → List ℕ
states_text states left = decimal states ++ (codes " states, " ++ (decimal left ++ codes " to look at, "))

abbrev pub search_line : ℕ → ℕ → ℕ → List ℕ
search_line states left seconds = 13 ∷ (codes "smtsim: " ++ (states_text states left ++ seconds_text seconds))

-- How many choices of executions were tried.
abbrev pub choices_text : ℕ → List ℕ
choices_text choices = decimal choices ++ codes " choices, "

abbrev pub choices_line : ℕ → ℕ → List ℕ
choices_line choices seconds = 13 ∷ (codes "smtsim: " ++ (choices_text choices ++ seconds_text seconds))

-- From the beginning of the line on.
abbrev pub progress_line : ℕ → ℕ → ℕ → ℕ → ℕ → List ℕ
progress_line events limit seconds run times =
    13 ∷ (codes "smtsim: " ++ (run_text run times ++ (events_text events limit ++ seconds_text seconds)))
