-- What callers see of the state: what the core was made from, how many events its history may have,
-- and the history.
use Rattle.std.specs.Prelude.{ℕ, List, ◌∷◌}
use Rattle.events.specs.declared.event.Event.{Event}
use Rattle.smt_model.specs.Setup.{Setup}

-- The history has its newest event first, as all definitions read it.
pub record CoreView : Type 0 where
  pub setup : Setup
  pub limit : ℕ
  pub past : List Event

-- The core after one more event.
abbrev pub grown : Event → CoreView → CoreView
grown e core = record core { past = e ∷ core.past }
