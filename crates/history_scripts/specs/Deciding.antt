-- What the rules leave open, and whether a history has it as a predictor and the core decide it.
use Rattle.std.specs.Prelude.{◌≡◌, ℕ, ◌<◌, Bool, true, false, List, length, slice_index_or}
use Rattle.events.specs.{declared.event.Event.Event, declared.event.Event.TheVariants.Fetch}
use Rattle.events.specs.declared.event.Event.TheVariants.{Rename}
use Rattle.smt_model.specs.Setup.{Setup}
use Rattle.smt_laws.specs.Shown.{IsDecided, AreDecided}
use Rattle.history_check.specs.Checking.{past_at}
use Rattle.schedules.specs.Replies.{IsFunction, predictor_of}
use Rattle.history_scripts.specs.declared.deciding.Decided.{Decided}
use Rattle.history_scripts.specs.declared.deciding.Decided.TheVariants as decided

-- It is so of the function whose guesses are the predictor's.
abbrev pub OfItsGuesses : {P : Type 0} → (P → ℕ → ℕ → ℕ → ℕ → P → Type 0)
    → ((ℕ → ℕ → ℕ → ℕ) → Type 0) → Type 0
OfItsGuesses predicts Holds = (guess : ℕ → ℕ → ℕ → ℕ) → IsFunction predicts guess → Holds guess

-- Each fetch of the history predicts what the predictor guesses, and each rename takes the least
-- free register.
abbrev pub AreGuessedBy : {P : Type 0} → (P → ℕ → ℕ → ℕ → ℕ → P → Type 0) → Setup → List Event
    → Type 0
AreGuessedBy predicts setup past =
    OfItsGuesses predicts (λ guess. AreDecided setup (predictor_of guess) past)

-- Of a fetch the prediction is open, and of a rename the register.
abbrev pub is_fetch : Event → Bool
is_fetch (Fetch actor hart seq pc word predicted) = true
is_fetch _ = false

abbrev pub is_rename : Event → Bool
is_rename (Rename actor seq phys) = true
is_rename _ = false

-- The event is decided otherwise; and how it is decided.
abbrev pub IsOtherwise : {P : Type 0} → (P → ℕ → ℕ → ℕ → ℕ → P → Type 0) → Setup → List Event
    → Event → Type 0
IsOtherwise predicts setup past e =
    OfItsGuesses predicts (λ guess. IsDecided setup (predictor_of guess) past e → ⊥)

abbrev pub IsJudged : {P : Type 0} → (P → ℕ → ℕ → ℕ → ℕ → P → Type 0) → Setup → List Event
    → Event → Decided → Type 0
IsJudged predicts setup past e decided.Alike =
    OfItsGuesses predicts (λ guess. IsDecided setup (predictor_of guess) past e)
IsJudged predicts setup past e decided.Predicted =
    (is_fetch e ≡ true) × IsOtherwise predicts setup past e
IsJudged predicts setup past e decided.Taken =
    (is_rename e ≡ true) × IsOtherwise predicts setup past e

-- The event at this place is of a kind, and is the first that is decided otherwise.
pub record IsFirstOther {P : Type 0} (predicts : P → ℕ → ℕ → ℕ → ℕ → P → Type 0)
    (setup : Setup) (events : List Event) (is_kind : Event → Bool) (index : ℕ) : Type 0 where
  pub event : Event
  pub inside : index < length events
  pub there : (d : Event) → slice_index_or events index d ≡ event
  pub is_of_kind : is_kind event ≡ true
  pub before : AreGuessedBy predicts setup (past_at events index)
  pub other : IsOtherwise predicts setup (past_at events index) event
