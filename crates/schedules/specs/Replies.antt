-- The history that the asks of a script leave, told by the script's words alone.
use Rattle.std.specs.Prelude.{◌≡◌, ◌<◌, ◌≤◌, ℕ, List, Some, None, length, reverse}
use Rattle.events.specs.declared.event.Event.{Event}
use Rattle.smt_model.specs.{Exec.next_pc}
use Rattle.smt_laws.specs.{Shown.Predictor, Scripts.HasReplied}
use Rattle.core_state.specs.View.{CoreView}
use Rattle.schedules.specs.Asks.{asks_of, HasNoIssue}
use Rattle.scripts.specs.Session.{AreAskedWith}

-- Each guess of a predictor is what a function of the hart, the pc and the word says.
abbrev pub IsFunction : {P : Type 0} → (P → ℕ → ℕ → ℕ → ℕ → P → Type 0) → (ℕ → ℕ → ℕ → ℕ) → Type 0
IsFunction {P} predicts guess =
    (before : P) (hart pc word guessed : ℕ) (after : P)
    → predicts before hart pc word guessed after → guessed ≡ guess hart pc word

-- Where a fetch goes on: where the function guesses, and behind the pc where there is no word.
abbrev pub predictor_of : (ℕ → ℕ → ℕ → ℕ) → Predictor
predictor_of guess hart pc (Some word) = guess hart pc word
predictor_of guess hart pc None = next_pc pc

-- A core that has answered a script, and has room left, has the history that replies to its asks.
abbrev pub RepliesToItsScript : {P : Type 0} → (P → ℕ → ℕ → ℕ → ℕ → P → Type 0) → Type 0
RepliesToItsScript {P} predicts =
    (guess : ℕ → ℕ → ℕ → ℕ) → IsFunction predicts guess
    → (before after : P) (script : List ℕ) (core : CoreView) (text : List ℕ)
    → (made : AreAskedWith predicts before after script core text) → HasNoIssue made.asked.words
    → length core.past < core.limit
    → HasReplied core.setup (predictor_of guess) (reverse (asks_of made.asked.words)) core.past

-- Where some history replies to these asks, and the limit has room for it, the core has this one.
abbrev pub FillsNoMoreThanItsScript : {P : Type 0} → (P → ℕ → ℕ → ℕ → ℕ → P → Type 0) → Type 0
FillsNoMoreThanItsScript {P} predicts =
    (guess : ℕ → ℕ → ℕ → ℕ) → IsFunction predicts guess
    → (before after : P) (script : List ℕ) (core : CoreView) (text : List ℕ)
    → (made : AreAskedWith predicts before after script core text) → HasNoIssue made.asked.words
    → (now : List Event)
    → HasReplied core.setup (predictor_of guess) (reverse (asks_of made.asked.words)) now
    → length now ≤ core.limit
    → core.past ≡ now
