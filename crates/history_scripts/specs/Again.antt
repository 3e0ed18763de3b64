-- That a script of a history makes it again.
use Rattle.std.specs.Prelude.{◌≡◌, ◌≤◌, ℕ, List, length}
use Rattle.events.specs.declared.event.Event.{Event}
use Rattle.smt_model.specs.{Setup.Setup, Rules.is_legal}
use Rattle.core_state.specs.View.{CoreView}
use Rattle.schedules.specs.Replies.{IsFunction, predictor_of}
use Rattle.scripts.specs.Session.{AreAskedWith}
use Rattle.history_scripts.specs.{Asked.AsksFor, Deciding.AreGuessedBy}

-- A core of this setup that was asked by this script, and has room for the history, has just this
-- history: event for event.
abbrev pub MakesAgain : {P : Type 0} → (P → ℕ → ℕ → ℕ → ℕ → P → Type 0) → Setup → List Event
    → List ℕ → Type 0
MakesAgain {P} predicts setup past script =
    (before after : P) (core : CoreView) (text : List ℕ)
    → core.setup ≡ setup → length past ≤ core.limit
    → AreAskedWith predicts before after script core text
    → core.past ≡ past

-- The text is a script of the history, which has predicted what the predictor guesses, and has taken
-- the least registers; so it makes the history again.
pub record IsScriptOf {P : Type 0} (predicts : P → ℕ → ℕ → ℕ → ℕ → P → Type 0) (setup : Setup)
    (past : List Event) (text : List ℕ) : Type 0 where
  pub legal : is_legal setup past
  pub asks : AsksFor past text
  pub guessed : AreGuessedBy predicts setup past
  pub again : (guess : ℕ → ℕ → ℕ → ℕ) → IsFunction predicts guess
      → MakesAgain predicts setup past text

-- ---- The law

-- So it is of every legal history, where the predictor's guesses are those of a function.
abbrev pub ScriptsMakeAgain : {P : Type 0} → (P → ℕ → ℕ → ℕ → ℕ → P → Type 0) → Type 0
ScriptsMakeAgain predicts =
    (guess : ℕ → ℕ → ℕ → ℕ) → IsFunction predicts guess
    → (setup : Setup) (past : List Event) (script : List ℕ)
    → is_legal setup past → AsksFor past script → AreGuessedBy predicts setup past
    → MakesAgain predicts setup past script
