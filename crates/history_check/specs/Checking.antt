-- Which event of a list is the first that isn't allowed.
use Rattle.std.specs.Prelude.{◌≡◌, ℕ, ◌<◌, List, length, reverse, take, Some, slice_index_or}
use Rattle.events.specs.declared.event.Event.{Event}
use Rattle.smt_model.specs.{Rules.is_legal, Rules.refused, Setup.Setup}
use Rattle.history_check.specs.declared.checking.Stopped.{Stopped}

-- The history of the first n of some events, which have the oldest first.
abbrev pub past_at : List Event → ℕ → List Event
past_at events n = reverse (take n events)

-- The events before this place are a legal history, and the one there breaks this rule first.
pub record IsFirstBroken (setup : Setup) (events : List Event) (index rule : ℕ) : Type 0 where
  pub event : Event
  pub inside : index < length events
  pub there : (d : Event) → slice_index_or events index d ≡ event
  pub legal : is_legal setup (past_at events index)
  pub breaks : refused setup (past_at events index) event ≡ Some rule

-- A core has followed the events before the one that is refused first, with room for all of them.
pub record IsStoppedAt (setup : Setup) (events : List Event) (stopped : Stopped) : Type 0 where
  pub first : IsFirstBroken setup events stopped.index stopped.rule
  pub core : stopped.core
      ≡ record { setup = setup; limit = length events; past = past_at events stopped.index }
