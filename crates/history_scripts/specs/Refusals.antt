-- When a list of events has no script.
use Rattle.std.specs.Prelude.{◌≡◌, ℕ, true, false, List, length, reverse}
use Rattle.events.specs.declared.event.Event.{Event}
use Rattle.smt_model.specs.{Setup.Setup, Setup.is_accepted, Rules.is_legal}
use Rattle.history_check.specs.Checking.{IsFirstBroken}
use Rattle.history_scripts.specs.Deciding.{IsFirstOther, is_fetch, is_rename}
use Rattle.history_scripts.specs.declared.refused.ScriptRefused.{ScriptRefused}
use Rattle.history_scripts.specs.declared.refused.ScriptRefused.TheVariants as refused

-- A core of this setup may have so many events, and they are a legal history of it.
abbrev pub IsHistory : Setup → List Event → Type 0
IsHistory setup events =
    (is_accepted setup (length events) ≡ true) × is_legal setup (reverse events)

-- When each refusal comes: the sizes and the number of events are looked at first, then whether each
-- event is allowed, then whether each is decided as the predictor and the core decide. Of memory
-- nothing is said.
abbrev pub IsScriptRefusedFor : {P : Type 0} → (P → ℕ → ℕ → ℕ → ℕ → P → Type 0) → Setup
    → List Event → ScriptRefused → Type 0
IsScriptRefusedFor predicts setup events refused.Config = is_accepted setup (length events) ≡ false
IsScriptRefusedFor predicts setup events (refused.Event index rule) =
    IsFirstBroken setup events index rule
IsScriptRefusedFor predicts setup events (refused.Prediction index) =
    IsHistory setup events × IsFirstOther predicts setup events is_fetch index
IsScriptRefusedFor predicts setup events (refused.Register index) =
    IsHistory setup events × IsFirstOther predicts setup events is_rename index
IsScriptRefusedFor predicts setup events refused.Memory = Unit {0}

-- The parts of it: whether the events are a history, and how they are decided.
abbrev pub IsHistoryRefusal : Setup → List Event → ScriptRefused → Type 0
IsHistoryRefusal setup events refused.Config = is_accepted setup (length events) ≡ false
IsHistoryRefusal setup events (refused.Event index rule) = IsFirstBroken setup events index rule
IsHistoryRefusal setup events refused.Memory = Unit {0}
IsHistoryRefusal setup events _ = ⊥

abbrev pub IsOther : {P : Type 0} → (P → ℕ → ℕ → ℕ → ℕ → P → Type 0) → Setup → List Event
    → ScriptRefused → Type 0
IsOther predicts setup events (refused.Prediction index) =
    IsFirstOther predicts setup events is_fetch index
IsOther predicts setup events (refused.Register index) =
    IsFirstOther predicts setup events is_rename index
IsOther predicts setup events _ = ⊥
