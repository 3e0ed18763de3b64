-- That reasons are exact: none is named exactly where an event is possible.
use Rattle.std.specs.Prelude.{◌≡◌, ◌↔◌, ◌<◌, ◌==◌, true, List, length, Option, None}
use Rattle.events.specs.declared.event.Event.{Event}
use Rattle.smt_model.specs.{Setup.Setup, Asks.Ask, Asks.answers, Rules.refused, Rules.is_legal}
use Rattle.smt_model.specs.{Basics.or_else}
use Rattle.core_state.specs.View.{CoreView}
use Rattle.reasons.specs.Reasons.{named, first_named, reasons}
use Rattle.reasons.specs.{declared.reason.Reason.Reason, declared.reason.Reason.TheVariants.Full}

-- An event that answers the ask may come next.
pub record MayCome (setup : Setup) (past : List Event) (ask : Ask) : Type 0 where
  pub event : Event
  pub answer : answers ask past event ≡ true
  pub allowed : refused setup past event ≡ None

-- ---- Law

abbrev pub ReasonsAreExact : Type 0
ReasonsAreExact =
    (setup : Setup) (past : List Event) → is_legal setup past → (ask : Ask)
    → (first_named (reasons setup past ask) ≡ None) ↔ MayCome setup past ask

-- ---- Of a core

-- There is room for an event that answers the ask.
pub record IsPossible (core : CoreView) (ask : Ask) : Type 0 where
  pub room : length core.past < core.limit
  pub may : MayCome core.setup core.past ask

-- The first reason that holds: that the history is full, or one of the ask's.
abbrev pub reason_in : CoreView → Ask → Option Reason
reason_in core ask =
    or_else (named (length core.past == core.limit) Full)
    (first_named (reasons core.setup core.past ask))

-- What is named is the first reason that holds; none is named exactly where the ask can be made.
pub record IsReason (core : CoreView) (ask : Ask) (r : Option Reason) : Type 0 where
  pub first : r ≡ reason_in core ask
  pub exact : (r ≡ None) ↔ IsPossible core ask
